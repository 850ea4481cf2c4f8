-- Constants that may be used: those from a number on. An item's own text has no constant of the article's own level.
use Rattle.std.specs.Prelude.{ℕ, Bool, true, ◌&&◌, nat_le, List}
use Rattle.std.specs.List.{list_all}
use Rattle.mz_logic.specs.Term.{Term, Terms, Bound, Const, App, none, more}
use Rattle.mz_core.specs.Statement.{Statement, Truth, Eq, Atom, Not, And, For}
use Rattle.mz_core.specs.declared.adjective.Adjective.{Adjective}
use Rattle.mz_core.specs.declared.soft_type.SoftType.{SoftType}

-- each constant has at least this number
abbrev mutual
  pub term_from : ℕ → Term → Bool
  term_from least (Bound index) = true
  term_from least (Const number) = nat_le least number
  term_from least (App s ts) = args_from least ts

  pub args_from : ℕ → Terms → Bool
  args_from least none = true
  args_from least (more t ts) = term_from least t && args_from least ts

abbrev pub adjective_from : ℕ → Adjective → Bool
adjective_from least a = list_all (term_from least) a.args

abbrev pub type_from : ℕ → SoftType → Bool
type_from least ty = list_all (adjective_from least) ty.adjectives && list_all (term_from least) ty.radix.args

abbrev pub types_from : ℕ → List SoftType → Bool
types_from least tys = list_all (type_from least) tys

abbrev pub statement_from : ℕ → Statement → Bool
statement_from least Truth = true
statement_from least (Eq t u) = term_from least t && term_from least u
statement_from least (Atom s ts) = list_all (term_from least) ts
statement_from least (Not s) = statement_from least s
statement_from least (And s t) = statement_from least s && statement_from least t
statement_from least (For ty s) = type_from least ty && statement_from least s
