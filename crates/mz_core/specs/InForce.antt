-- What has constants below a number alone: those that are in force where that is the number of the next one.
use Rattle.std.specs.Prelude.{ℕ, Bool, true, ◌&&◌, nat_lt}
use Rattle.std.specs.List.{list_all}
use Rattle.mz_logic.specs.Term.{Term, Terms, Bound, Const, App, none, more}
use Rattle.mz_logic.specs.Formula as formula
use Rattle.mz_logic.specs.Formula.{Formula}
use Rattle.mz_core.specs.Statement as statement
use Rattle.mz_core.specs.Statement.{Statement}
use Rattle.mz_core.specs.declared.adjective.Adjective.{Adjective}
use Rattle.mz_core.specs.declared.soft_type.SoftType.{SoftType}

abbrev mutual
  pub term_in_force : ℕ → Term → Bool
  term_in_force next (Bound index) = true
  term_in_force next (Const number) = nat_lt number next
  term_in_force next (App s ts) = args_in_force next ts

  pub args_in_force : ℕ → Terms → Bool
  args_in_force next none = true
  args_in_force next (more t ts) = term_in_force next t && args_in_force next ts

abbrev pub formula_in_force : ℕ → Formula → Bool
formula_in_force next formula.Truth = true
formula_in_force next (formula.Eq t u) = term_in_force next t && term_in_force next u
formula_in_force next (formula.Atom s ts) = list_all (term_in_force next) ts
formula_in_force next (formula.Not f) = formula_in_force next f
formula_in_force next (formula.And f g) = formula_in_force next f && formula_in_force next g
formula_in_force next (formula.All f) = formula_in_force next f

abbrev pub adjective_in_force : ℕ → Adjective → Bool
adjective_in_force next a = list_all (term_in_force next) a.args

abbrev pub type_in_force : ℕ → SoftType → Bool
type_in_force next ty = list_all (adjective_in_force next) ty.adjectives && list_all (term_in_force next) ty.radix.args

abbrev pub statement_in_force : ℕ → Statement → Bool
statement_in_force next statement.Truth = true
statement_in_force next (statement.Eq t u) = term_in_force next t && term_in_force next u
statement_in_force next (statement.Atom s ts) = list_all (term_in_force next) ts
statement_in_force next (statement.Not s) = statement_in_force next s
statement_in_force next (statement.And s t) = statement_in_force next s && statement_in_force next t
statement_in_force next (statement.For ty s) = type_in_force next ty && statement_in_force next s
