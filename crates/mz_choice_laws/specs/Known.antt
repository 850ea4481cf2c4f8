-- What has known constants alone, and no loose index. Which numbers are those of known constants is a test.
use Rattle.std.specs.Prelude.{◌≡◌, ℕ, Bool, true, ◌&&◌, nat_lt, Some, Contains}
use Rattle.std.specs.List.{list_all}
use Rattle.mz_logic.specs.Term.{Term, Terms, Bound, Const, App, none, more}
use Rattle.mz_logic.specs.declared.literal.Literal.{Literal}
use Rattle.mz_core.specs.Statement.{Statement}
use Rattle.mz_core.specs.Everywhere.{adjective_all, type_all, literal_all, statement_all}
use Rattle.mz_core.specs.declared.adjective.Adjective.{Adjective}
use Rattle.mz_core.specs.declared.radix.Radix.{Radix}
use Rattle.mz_core.specs.declared.soft_type.SoftType.{SoftType}
use Rattle.mz_core.specs.declared.notation.Meaning.{Meaning}
use Rattle.mz_core.specs.declared.notation.Meaning.TheVariants.{OfTerm, OfLiteral, OfType}
use Rattle.mz_items.specs.Closed.{letter_closed}
use Rattle.mz_context.specs.declared.constants.Constant.{Constant}
use Rattle.mz_context.specs.declared.context.Context.{Context}
use Rattle.mz_context.specs.declared.letters.NamedLetter.{NamedLetter}
use Rattle.mz_context.specs.Context.{constant_at}

-- each constant of the term is known, and each free index is below n
abbrev mutual
  pub term_known : (ℕ → Bool) → ℕ → Term → Bool
  term_known known n (Bound index) = nat_lt index n
  term_known known n (Const number) = known number
  term_known known n (App s ts) = args_known known n ts

  pub args_known : (ℕ → Bool) → ℕ → Terms → Bool
  args_known known n none = true
  args_known known n (more t ts) = term_known known n t && args_known known n ts

abbrev pub adjective_known : (ℕ → Bool) → ℕ → Adjective → Bool
adjective_known known n a = adjective_all (term_known known) n a

abbrev pub radix_known : (ℕ → Bool) → ℕ → Radix → Bool
radix_known known n r = list_all (term_known known n) r.args

abbrev pub type_known : (ℕ → Bool) → ℕ → SoftType → Bool
type_known known n ty = type_all (term_known known) n ty

abbrev pub literal_known : (ℕ → Bool) → ℕ → Literal → Bool
literal_known known n l = literal_all (term_known known) n l

abbrev pub statement_known : (ℕ → Bool) → ℕ → Statement → Bool
statement_known known n s = statement_all (term_known known) n s

abbrev pub meaning_known : (ℕ → Bool) → ℕ → Meaning → Bool
meaning_known known n (OfTerm t) = term_known known n t
meaning_known known n (OfLiteral l) = literal_known known n l
meaning_known known n (OfType ty) = type_known known n ty

-- the type of each known constant has known constants alone and no loose index, and the letters' types have none at all
pub record HasKnownTypes (known : ℕ → Bool) (c : Context) : Type 0 where
  pub constants : (n : ℕ) (k : Constant) → constant_at c n ≡ Some k → known n ≡ true → type_known known 0 k.ty ≡ true
  pub letters : (l : NamedLetter) → Contains c.letters l → letter_closed l.letter ≡ true
