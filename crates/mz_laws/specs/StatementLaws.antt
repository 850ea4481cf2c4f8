-- Laws of types and statements through shifts, substitution and abstraction.
use Rattle.std.specs.Prelude.{◌≡◌, ℕ, ◌+◌, ◌≤◌, ◌<◌, true, false, [], ◌∷◌, map}
use Rattle.std.specs.List.{list_all}
use Rattle.mz_logic.specs.Term.{Term, Const}
use Rattle.mz_logic.specs.Formula.{Formula}
use Rattle.mz_logic.specs.Indices.{is_below, formula_below}
use Rattle.mz_logic.specs.Constants.{occurs_in_formula}
use Rattle.mz_logic.specs.Substitution.{shift, shift_formula, substitute, substitute_formula, value_at}
use Rattle.mz_core.specs.Statement.{Statement}
use Rattle.mz_core.specs.TypeShift.{shift_type, shift_statement}
use Rattle.mz_core.specs.TypeSubstitution.{substitute_type, substitute_statement, statement_at}
use Rattle.mz_core.specs.Abstraction.{type_over, statement_over}
use Rattle.mz_core.specs.Guard.{guard}
use Rattle.mz_core.specs.Connectives.{guard_inside, where_guard}
use Rattle.mz_core.specs.Erasure.{erase}
use Rattle.mz_core.specs.InForce.{term_in_force, formula_in_force, type_in_force, statement_in_force}
use Rattle.mz_core.specs.Below.{type_below, statement_below}
use Rattle.mz_core.specs.declared.soft_type.SoftType.{SoftType}
use Rattle.mz_laws.specs.Lacking.{statement_lacks}

-- a shift changes no constant
abbrev pub TermShiftInForce : Type 0
TermShiftInForce = (next from by : ℕ) (t : Term) → term_in_force next (shift from by t) ≡ term_in_force next t

abbrev pub TypeShiftInForce : Type 0
TypeShiftInForce = (next from by : ℕ) (ty : SoftType) → type_in_force next (shift_type from by ty) ≡ type_in_force next ty

abbrev pub FormulaShiftInForce : Type 0
FormulaShiftInForce = (next from by : ℕ) (f : Formula) → formula_in_force next (shift_formula from by f) ≡ formula_in_force next f

abbrev pub StatementShiftInForce : Type 0
StatementShiftInForce = (next from by : ℕ) (s : Statement) → statement_in_force next (shift_statement from by s) ≡ statement_in_force next s

-- values that are in force, put for the indices of what is in force
abbrev pub TermSubstitutionInForce : Type 0
TermSubstitutionInForce = (next depth : ℕ) (values : ℕ → Term) (t : Term) → ((k : ℕ) → term_in_force next (values k) ≡ true) → term_in_force next t ≡ true → term_in_force next (substitute depth values t) ≡ true

abbrev pub TypeSubstitutionInForce : Type 0
TypeSubstitutionInForce = (next depth : ℕ) (values : ℕ → Term) (ty : SoftType) → ((k : ℕ) → term_in_force next (values k) ≡ true) → type_in_force next ty ≡ true → type_in_force next (substitute_type depth values ty) ≡ true

abbrev pub FormulaSubstitutionInForce : Type 0
FormulaSubstitutionInForce = (next depth : ℕ) (values : ℕ → Term) (f : Formula) → ((k : ℕ) → term_in_force next (values k) ≡ true) → formula_in_force next f ≡ true → formula_in_force next (substitute_formula depth values f) ≡ true

abbrev pub StatementSubstitutionInForce : Type 0
StatementSubstitutionInForce = (next depth : ℕ) (values : ℕ → Term) (s : Statement) → ((k : ℕ) → term_in_force next (values k) ≡ true) → statement_in_force next s ≡ true → statement_in_force next (substitute_statement depth values s) ≡ true

-- more constants in force
abbrev pub MoreTermInForce : Type 0
MoreTermInForce = (m n : ℕ) (t : Term) → m ≤ n → term_in_force m t ≡ true → term_in_force n t ≡ true

abbrev pub MoreTypeInForce : Type 0
MoreTypeInForce = (m n : ℕ) (ty : SoftType) → m ≤ n → type_in_force m ty ≡ true → type_in_force n ty ≡ true

abbrev pub MoreFormulaInForce : Type 0
MoreFormulaInForce = (m n : ℕ) (f : Formula) → m ≤ n → formula_in_force m f ≡ true → formula_in_force n f ≡ true

-- the constant that is made an index was the last one
abbrev pub TypeAbstractionInForce : Type 0
TypeAbstractionInForce = (c depth : ℕ) (ty : SoftType) → type_in_force (c + 1) ty ≡ true → type_in_force c (type_over c depth ty) ≡ true

-- a type that stands outside a quantifier is as it was where a term is put for the quantifier's index
abbrev pub TypeUnderQuantifier : Type 0
TypeUnderQuantifier = (ty : SoftType) (t : Term) → substitute_type 0 (value_at (t ∷ [])) (shift_type 0 1 ty) ≡ ty

-- the guard of a quantifier's object at a term is the guard at the term
abbrev pub GuardAtTerm : Type 0
GuardAtTerm = (ty : SoftType) (t : Term) → map (substitute_formula 0 (value_at (t ∷ []))) (guard_inside ty) ≡ guard ty t

-- what a typed quantifier says of a term: its body at the term, under the guard at the term
abbrev pub BodyUnderGuard : Type 0
BodyUnderGuard = (ty : SoftType) (s : Statement) (t : Term) → substitute_formula 0 (value_at (t ∷ [])) (where_guard (guard_inside ty) (erase s)) ≡ where_guard (guard ty t) (erase (statement_at s t))

-- free indices
abbrev pub TypeShiftBelow : Type 0
TypeShiftBelow = (from by n : ℕ) (ty : SoftType) → type_below n ty ≡ true → type_below (n + by) (shift_type from by ty) ≡ true

abbrev pub StatementShiftBelow : Type 0
StatementShiftBelow = (from by n : ℕ) (s : Statement) → statement_below (from + n) s ≡ true → statement_below (from + (n + by)) (shift_statement from by s) ≡ true

abbrev pub TypeSubstitutionBelow : Type 0
TypeSubstitutionBelow = (depth m n : ℕ) (values : ℕ → Term) (ty : SoftType) → ((k : ℕ) → k < n → is_below m (values k) ≡ true) → type_below (depth + n) ty ≡ true → type_below (depth + m) (substitute_type depth values ty) ≡ true

abbrev pub StatementSubstitutionBelow : Type 0
StatementSubstitutionBelow = (depth m n : ℕ) (values : ℕ → Term) (s : Statement) → ((k : ℕ) → k < n → is_below m (values k) ≡ true) → statement_below (depth + n) s ≡ true → statement_below (depth + m) (substitute_statement depth values s) ≡ true

abbrev pub GuardBelow : Type 0
GuardBelow = (n : ℕ) (ty : SoftType) (t : Term) → type_below n ty ≡ true → is_below n t ≡ true → list_all (formula_below n) (guard ty t) ≡ true

-- a constant that the statement lacks, put for an index and made an index again
abbrev pub AbstractionOfBodyLacking : Type 0
AbstractionOfBodyLacking = (c : ℕ) (s : Statement) → statement_lacks c s ≡ true → statement_over c 0 (statement_at s (Const c)) ≡ s

-- what is in force lacks the next constant
abbrev pub NextLacking : Type 0
NextLacking = (next : ℕ) (s : Statement) → statement_in_force next s ≡ true → statement_lacks next s ≡ true

-- a constant that was made an index is gone
abbrev pub AbstractionLacking : Type 0
AbstractionLacking = (c : ℕ) (s : Statement) → statement_lacks c (statement_over c 0 s) ≡ true

-- what a statement lacks, its formula lacks
abbrev pub ErasureLacking : Type 0
ErasureLacking = (c : ℕ) (s : Statement) → statement_lacks c s ≡ true → occurs_in_formula c (erase s) ≡ false
