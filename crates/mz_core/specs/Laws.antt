-- Laws of statements and types.
use Rattle.std.specs.Prelude.{◌≡◌, ℕ, ◌+◌, ◌≤◌, Bool, true, false, List, [], ◌∷◌, map}
use Rattle.std.specs.List.{list_all}
use Rattle.mz_logic.specs.Term.{Term, Const}
use Rattle.mz_logic.specs.Formula.{Formula}
use Rattle.mz_logic.specs.Connectives.{joined}
use Rattle.mz_logic.specs.Negation.{negated}
use Rattle.mz_logic.specs.Indices.{closed, formula_below}
use Rattle.mz_logic.specs.Constants.{occurs, occurs_in_formula}
use Rattle.mz_logic.specs.Substitution.{shift, shift_formula, substitute, substitute_formula, value_at, body_at}
use Rattle.mz_logic.specs.Abstraction.{term_over, formula_over}
use Rattle.mz_core.specs.Statement.{Statement}
use Rattle.mz_core.specs.StatementForms.{opposite}
use Rattle.mz_core.specs.TypeShift.{shift_type, shift_statement}
use Rattle.mz_core.specs.TypeSubstitution.{substitute_type, substitute_statement, statement_at}
use Rattle.mz_core.specs.Abstraction.{type_over, statement_over}
use Rattle.mz_core.specs.Guard.{guard}
use Rattle.mz_core.specs.Parts.{parts, conjunction}
use Rattle.mz_core.specs.Erasure.{erase}
use Rattle.mz_core.specs.InForce.{term_in_force, formula_in_force, type_in_force, statement_in_force}
use Rattle.mz_core.specs.Below.{statement_below}
use Rattle.mz_core.specs.declared.soft_type.SoftType.{SoftType}

-- the erasure of what a change makes of a statement is what it makes of the erasure
abbrev pub ErasureOfShift : Type 0
ErasureOfShift = (from by : ℕ) (s : Statement) → erase (shift_statement from by s) ≡ shift_formula from by (erase s)

abbrev pub ErasureOfSubstitution : Type 0
ErasureOfSubstitution = (depth : ℕ) (values : ℕ → Term) (s : Statement) → erase (substitute_statement depth values s) ≡ substitute_formula depth values (erase s)

abbrev pub ErasureOfBody : Type 0
ErasureOfBody = (s : Statement) (t : Term) → erase (statement_at s t) ≡ body_at (erase s) t

abbrev pub ErasureOfAbstraction : Type 0
ErasureOfAbstraction = (c depth : ℕ) (s : Statement) → erase (statement_over c depth s) ≡ formula_over c depth (erase s)

-- so it is with negation, and with conjunctions
abbrev pub ErasureOfNegation : Type 0
ErasureOfNegation = (s : Statement) → erase (opposite s) ≡ negated (erase s)

abbrev pub ErasureOfConjunction : Type 0
ErasureOfConjunction = (ss : List Statement) → erase (conjunction ss) ≡ joined (map erase ss)

-- the guard of a changed type at a changed term is the changed guard
abbrev pub GuardOfSubstitution : Type 0
GuardOfSubstitution = (depth : ℕ) (values : ℕ → Term) (ty : SoftType) (t : Term) → map (substitute_formula depth values) (guard ty t) ≡ guard (substitute_type depth values ty) (substitute depth values t)

abbrev pub GuardOfAbstraction : Type 0
GuardOfAbstraction = (c depth : ℕ) (ty : SoftType) (t : Term) → map (formula_over c depth) (guard ty t) ≡ guard (type_over c depth ty) (term_over c depth t)

-- the body at the constant, and the constant made an index again: each undoes the other
abbrev pub BodyOfAbstraction : Type 0
BodyOfAbstraction = (c : ℕ) (s : Statement) → statement_at (statement_over c 0 s) (Const c) ≡ s

abbrev pub AbstractionOfBody : Type 0
AbstractionOfBody = (c : ℕ) (s : Statement) → statement_in_force c s ≡ true → statement_over c 0 (statement_at s (Const c)) ≡ s

-- free indices
abbrev pub BodyBelow : Type 0
BodyBelow = (n : ℕ) (s : Statement) (t : Term) → closed t ≡ true → statement_below (n + 1) s ≡ true → statement_below n (statement_at s t) ≡ true

abbrev pub AbstractionBelow : Type 0
AbstractionBelow = (n c : ℕ) (s : Statement) → statement_below n s ≡ true → statement_below (n + 1) (statement_over c 0 s) ≡ true

abbrev pub ErasureBelow : Type 0
ErasureBelow = (n : ℕ) (s : Statement) → statement_below n s ≡ true → formula_below n (erase s) ≡ true

-- constants in force
abbrev pub MoreInForce : Type 0
MoreInForce = (m n : ℕ) (s : Statement) → m ≤ n → statement_in_force m s ≡ true → statement_in_force n s ≡ true

abbrev pub BodyInForce : Type 0
BodyInForce = (next : ℕ) (s : Statement) (t : Term) → term_in_force next t ≡ true → statement_in_force next s ≡ true → statement_in_force next (statement_at s t) ≡ true

-- the constant that is made an index was the last one
abbrev pub AbstractionInForce : Type 0
AbstractionInForce = (c : ℕ) (s : Statement) → statement_in_force (c + 1) s ≡ true → statement_in_force c (statement_over c 0 s) ≡ true

abbrev pub NegationInForce : Type 0
NegationInForce = (next : ℕ) (s : Statement) → statement_in_force next (opposite s) ≡ statement_in_force next s

abbrev pub PartsInForce : Type 0
PartsInForce = (next : ℕ) (s : Statement) → statement_in_force next s ≡ true → list_all (statement_in_force next) (parts s) ≡ true

abbrev pub ConjunctionInForce : Type 0
ConjunctionInForce = (next : ℕ) (ss : List Statement) → list_all (statement_in_force next) ss ≡ true → statement_in_force next (conjunction ss) ≡ true

abbrev pub GuardInForce : Type 0
GuardInForce = (next : ℕ) (ty : SoftType) (t : Term) → type_in_force next ty ≡ true → term_in_force next t ≡ true → list_all (formula_in_force next) (guard ty t) ≡ true

abbrev pub ErasureInForce : Type 0
ErasureInForce = (next : ℕ) (s : Statement) → statement_in_force next s ≡ true → formula_in_force next (erase s) ≡ true

-- the next constant occurs in no formula that is in force
abbrev pub NextIsNew : Type 0
NextIsNew = (next : ℕ) (f : Formula) → formula_in_force next f ≡ true → occurs_in_formula next f ≡ false
