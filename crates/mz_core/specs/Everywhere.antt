-- What holds of each term of a type, a literal, a statement or a formula. A property of terms goes by the
-- number of binders above the term.
use Rattle.std.specs.Prelude.{ℕ, ◌+◌, Bool, true, ◌&&◌}
use Rattle.std.specs.List.{list_all}
use Rattle.mz_logic.specs.Term.{Term}
use Rattle.mz_logic.specs.Formula as formula
use Rattle.mz_logic.specs.Formula.{Formula}
use Rattle.mz_logic.specs.declared.literal.Literal.{Literal}
use Rattle.mz_logic.specs.declared.literal.Literal.TheVariants as literal
use Rattle.mz_core.specs.Statement as statement
use Rattle.mz_core.specs.Statement.{Statement}
use Rattle.mz_core.specs.declared.adjective.Adjective.{Adjective}
use Rattle.mz_core.specs.declared.soft_type.SoftType.{SoftType}

abbrev pub adjective_all : (ℕ → Term → Bool) → ℕ → Adjective → Bool
adjective_all p n a = list_all (p n) a.args

abbrev pub type_all : (ℕ → Term → Bool) → ℕ → SoftType → Bool
type_all p n ty = list_all (adjective_all p n) ty.adjectives && list_all (p n) ty.radix.args

abbrev pub literal_all : (ℕ → Term → Bool) → ℕ → Literal → Bool
literal_all p n (literal.Atom positive s ts) = list_all (p n) ts
literal_all p n (literal.Eq positive t u) = p n t && p n u

-- the body of a quantifier stands under one more binder, its type does not
abbrev pub statement_all : (ℕ → Term → Bool) → ℕ → Statement → Bool
statement_all p n statement.Truth = true
statement_all p n (statement.Eq t u) = p n t && p n u
statement_all p n (statement.Atom s ts) = list_all (p n) ts
statement_all p n (statement.Not s) = statement_all p n s
statement_all p n (statement.And s t) = statement_all p n s && statement_all p n t
statement_all p n (statement.For ty s) = type_all p n ty && statement_all p (n + 1) s

abbrev pub formula_all : (ℕ → Term → Bool) → ℕ → Formula → Bool
formula_all p n formula.Truth = true
formula_all p n (formula.Eq t u) = p n t && p n u
formula_all p n (formula.Atom s ts) = list_all (p n) ts
formula_all p n (formula.Not f) = formula_all p n f
formula_all p n (formula.And f g) = formula_all p n f && formula_all p n g
formula_all p n (formula.All f) = formula_all p (n + 1) f
