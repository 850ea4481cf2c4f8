-- The constants that occur, each as often as it occurs: those with numbers below a count.
use Rattle.std.specs.Prelude.{◌≡◌, ◌<◌, ◌≤◌, ℕ, suc, Bool, if◌then◌else◌, nat_eq, nat_lt, List, [], ◌∷◌, ◌++◌, flat_map, Option, Some, None, length, get_or, ⊤}
use Rattle.std.specs.List.{list_any}
use Rattle.mz_logic.specs.Term.{Term, Terms, Bound, Const, App, none, more}
use Rattle.mz_logic.specs.Formula.{Formula, Truth, Eq, Atom, Not, And, All}
use Rattle.mz_logic.specs.declared.literal.Literal.TheVariants as literal
use Rattle.mz_logic.specs.declared.literal.Literal.{Literal}
use Rattle.mz_core.specs.declared.adjective.Adjective.{Adjective}
use Rattle.mz_core.specs.declared.soft_type.SoftType.{SoftType}
use Rattle.mz_context.specs.declared.constants.Constant.{Constant}
use Rattle.mz_context.specs.Context.{numbered}

-- the number is in the list
abbrev pub is_among : List ℕ → ℕ → Bool
is_among ns c = list_any (nat_eq c) ns

abbrev pub one_below : ℕ → ℕ → List ℕ
one_below count n = if nat_lt n count then n ∷ [] else []

abbrev mutual
  pub term_constants : ℕ → Term → List ℕ
  term_constants count (Bound index) = []
  term_constants count (Const number) = one_below count number
  term_constants count (App s ts) = args_constants count ts

  pub args_constants : ℕ → Terms → List ℕ
  args_constants count none = []
  args_constants count (more t ts) = term_constants count t ++ args_constants count ts

abbrev pub formula_constants : ℕ → Formula → List ℕ
formula_constants count Truth = []
formula_constants count (Eq t u) = term_constants count t ++ term_constants count u
formula_constants count (Atom s ts) = flat_map (term_constants count) ts
formula_constants count (Not f) = formula_constants count f
formula_constants count (And f g) = formula_constants count f ++ formula_constants count g
formula_constants count (All f) = formula_constants count f

abbrev pub literal_constants : ℕ → Literal → List ℕ
literal_constants count (literal.Atom positive s ts) = flat_map (term_constants count) ts
literal_constants count (literal.Eq positive t u) = term_constants count t ++ term_constants count u

abbrev pub adjective_constants : ℕ → Adjective → List ℕ
adjective_constants count a = flat_map (term_constants count) a.args

abbrev pub type_constants : ℕ → SoftType → List ℕ
type_constants count ty = flat_map (term_constants count) ty.radix.args ++ flat_map (adjective_constants count) ty.adjectives

abbrev pub equal_constants : ℕ → Option Term → List ℕ
equal_constants count None = []
equal_constants count (Some t) = term_constants count t

-- those in what is known of a constant
abbrev pub known_constants : ℕ → Option Constant → List ℕ
known_constants count None = []
known_constants count (Some k) = type_constants count k.ty ++ equal_constants count k.equal

abbrev pub constants_known : ℕ → List (Option Constant) → ℕ → List ℕ
constants_known count ks d = known_constants count (numbered ks d)

-- each number is below the next, and none below the first bound
unfoldable pub Rises : ℕ → List ℕ → Type 0
Rises low [] = ⊤
Rises low (n ∷ ns) = (low ≤ n) × Rises (suc n) ns

-- the table tells of each number below the count whether it is in the list
pub record Tells (count : ℕ) (table : List Bool) (ns : List ℕ) : Type 0 where
  long : length table ≡ count
  tells : (c : ℕ) → c < count → (d : Bool) → get_or table c d ≡ is_among ns c
