-- A law for each row of the table of steps, over lists of premises.
use Rattle.std.specs.Prelude.{◌≡◌, ◌≤◌, ℕ, true, List, [], ◌∷◌, ◌++◌, map, Contains, Option}
use Rattle.std.specs.List.{list_all}
use Rattle.mz_logic.specs.Term.{Term, Bound, Const}
use Rattle.mz_logic.specs.Formula as formula
use Rattle.mz_logic.specs.Formula.{Formula}
use Rattle.mz_logic.specs.Indices.{closed}
use Rattle.mz_logic.specs.Substitution.{shift}
use Rattle.mz_logic.specs.Derives.{Derives}
use Rattle.mz_core.specs.Statement.{Statement, Eq, Not, For}
use Rattle.mz_core.specs.StatementForms.{opposite, for_some}
use Rattle.mz_core.specs.TypeSubstitution.{statement_at}
use Rattle.mz_core.specs.Parts.{parts}
use Rattle.mz_core.specs.Guard.{guard}
use Rattle.mz_core.specs.Erasure.{erase}
use Rattle.mz_core.specs.InForce.{term_in_force, formula_in_force, type_in_force, statement_in_force}
use Rattle.mz_core.specs.declared.soft_type.SoftType.{SoftType}
use Rattle.mz_context.specs.Context.{numbers}
use Rattle.mz_context.specs.declared.constants.Constant.{Constant}
use Rattle.mz_ground.specs.declared.clause.Clause.{Clause}
use Rattle.mz_fits.specs.Fits.{TypeFits}
use Rattle.mz_fits.specs.Laws.{AreGranted}
use Rattle.mz_thesis.specs.Rows.{BeginSame, antecedents, rest_behind, FitsFresh}
use Rattle.mz_thesis.specs.Cases.{disjunction_to}

-- it equals t, where t stands outside the quantifier
abbrev pub equal_to : Term → Statement
equal_to t = Eq (Bound 0) (shift 0 1 t)

-- each constant of the formulas has a number below the next one
abbrev pub AreInForce : ℕ → List Formula → Type 0
AreInForce next fs = list_all (formula_in_force next) fs ≡ true

-- let x be T: where the body derives at a constant that isn't in force, from the guard of T at it, the universal
-- derives, whose type T fits
abbrev pub LetLaw : Type 0
LetLaw =
    (axioms premises : List Formula) (cs : List Clause) (ks : List (Option Constant)) → AreGranted axioms premises cs ks → AreInForce (numbers ks) premises →
    (c : ℕ) (known ty : SoftType) (s : Statement) → numbers ks ≤ c → statement_in_force (numbers ks) (For known s) ≡ true → type_in_force (numbers ks) ty ≡ true →
    FitsFresh cs ks known ty →
    Derives axioms (guard ty (Const c) ++ premises) (erase (statement_at s (Const c))) → Derives axioms premises (erase (For known s))

-- assume A: where what is left derives from A, the thesis derives
abbrev pub AssumeLaw : Type 0
AssumeLaw =
    (axioms premises : List Formula) (thesis s : Statement) → BeginSame (parts s) (antecedents thesis) →
    Derives axioms (erase s ∷ premises) (erase (opposite (rest_behind s (antecedents thesis)))) → Derives axioms premises (erase thesis)

-- thus A: where A derives, and from A what is left, the thesis derives
abbrev pub ThusLaw : Type 0
ThusLaw =
    (axioms premises : List Formula) (thesis s : Statement) → BeginSame (parts s) (parts thesis) → Derives axioms premises (erase s) →
    Derives axioms (erase s ∷ premises) (erase (rest_behind s (parts thesis))) → Derives axioms premises (erase thesis)

-- take t: where the body derives at a closed term of the type, the existential derives
abbrev pub TakeLaw : Type 0
TakeLaw =
    (axioms premises : List Formula) (cs : List Clause) (ks : List (Option Constant)) → AreGranted axioms premises cs ks →
    (ty : SoftType) (s : Statement) (t : Term) → closed t ≡ true → TypeFits cs ks t ty →
    Derives axioms premises (erase (opposite (statement_at s t))) → Derives axioms premises (erase (Not (For ty s)))

-- per cases: where the disjunction of the cases derives, and the thesis in each of them, the thesis derives
abbrev pub CasesLaw : Type 0
CasesLaw =
    (axioms premises : List Formula) (thesis s : Statement) (ts : List Statement) → Derives axioms premises (erase (disjunction_to s ts)) →
    ((u : Statement) → Contains (s ∷ ts) u → Derives axioms (erase u ∷ premises) (erase thesis)) → Derives axioms premises (erase thesis)

-- consider x being T such that A: where the existential derives, and the thesis from A at a constant that isn't in force
-- and the guard of T at it, the thesis derives
abbrev pub ConsiderLaw : Type 0
ConsiderLaw =
    (axioms premises : List Formula) (next c : ℕ) (ty : SoftType) (s thesis : Statement) → AreInForce next premises → next ≤ c →
    type_in_force next ty ≡ true → statement_in_force next s ≡ true → statement_in_force next thesis ≡ true →
    Derives axioms premises (erase (for_some ty s)) →
    Derives axioms (erase (statement_at s (Const c)) ∷ guard ty (Const c) ++ premises) (erase thesis) → Derives axioms premises (erase thesis)

-- reconsider x = t as T, and set x = t, whose guard derives as well: where T's guard derives at the closed term t, and
-- the thesis from the guard at a constant that isn't in force and the constant's equation with t, the thesis derives
abbrev pub DefineLaw : Type 0
DefineLaw =
    (axioms premises : List Formula) (next c : ℕ) (ty : SoftType) (t : Term) (thesis : Statement) → AreInForce next premises → next ≤ c →
    type_in_force next ty ≡ true → closed t ≡ true → term_in_force next t ≡ true → statement_in_force next thesis ≡ true →
    ((f : Formula) → Contains (guard ty t) f → Derives axioms premises f) →
    Derives axioms (formula.Eq (Const c) t ∷ guard ty (Const c) ++ premises) (erase thesis) → Derives axioms premises (erase thesis)
