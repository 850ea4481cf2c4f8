-- What stands under n binders alone: it has no constant, and each free index is below n.
use Rattle.std.specs.Prelude.{ℕ, ◌+◌, Bool, true, false, ◌&&◌, nat_lt, List, [], ◌∷◌}
use Rattle.mz_logic.specs.Term.{Term, Terms, Bound, Const, App, none, more}
use Rattle.mz_logic.specs.Formula.{Formula}
use Rattle.mz_logic.specs.declared.literal.Literal.{Literal}
use Rattle.mz_core.specs.Statement.{Statement}
use Rattle.mz_core.specs.Everywhere.{adjective_all, type_all, literal_all, statement_all, formula_all}
use Rattle.mz_core.specs.declared.adjective.Adjective.{Adjective}
use Rattle.mz_core.specs.declared.soft_type.SoftType.{SoftType}

abbrev mutual
  pub term_under : ℕ → Term → Bool
  term_under n (Bound index) = nat_lt index n
  term_under n (Const number) = false
  term_under n (App s ts) = args_under n ts

  pub args_under : ℕ → Terms → Bool
  args_under n none = true
  args_under n (more t ts) = term_under n t && args_under n ts

abbrev pub formula_under : ℕ → Formula → Bool
formula_under n f = formula_all term_under n f

abbrev pub literal_under : ℕ → Literal → Bool
literal_under n l = literal_all term_under n l

abbrev pub adjective_under : ℕ → Adjective → Bool
adjective_under n a = adjective_all term_under n a

abbrev pub type_under : ℕ → SoftType → Bool
type_under n ty = type_all term_under n ty

abbrev pub statement_under : ℕ → Statement → Bool
statement_under n s = statement_all term_under n s

-- each type stands under those before it
abbrev pub loci_under : ℕ → List SoftType → Bool
loci_under n [] = true
loci_under n (ty ∷ tys) = type_under n ty && loci_under (n + 1) tys

abbrev pub loci_closed : List SoftType → Bool
loci_closed = loci_under 0
