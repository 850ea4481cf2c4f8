-- Laws of steps in contexts: whoever derives what is left behind a step has derived the thesis before it.
use Rattle.std.specs.Prelude.{◌≡◌, ℕ, suc, true, List, [], ◌∷◌, ◌++◌, map, Option, Some, None, Contains}
use Rattle.mz_logic.specs.Term.{Const}
use Rattle.mz_logic.specs.Formula.{Formula}
use Rattle.mz_logic.specs.Indices.{closed}
use Rattle.mz_logic.specs.Derives.{Derives}
use Rattle.mz_core.specs.Statement.{Statement}
use Rattle.mz_core.specs.Guard.{guard}
use Rattle.mz_core.specs.Erasure.{erase}
use Rattle.mz_core.specs.InForce.{term_in_force, type_in_force, statement_in_force}
use Rattle.mz_core.specs.Below.{statement_below}
use Rattle.mz_context.specs.Context.{next}
use Rattle.mz_context.specs.declared.context.Context.{Context}
use Rattle.mz_context.specs.declared.labelled.LabelledStatement.{LabelledStatement}
use Rattle.mz_ground.specs.declared.clause.Clause.{Clause}
use Rattle.mz_environment.specs.declared.unfoldings.Unfolding.{Unfolding}
use Rattle.mz_names.specs.Closing.{there_are}
use Rattle.mz_names.specs.declared.variable.Variable.{Variable}
use Rattle.mz_thesis_laws.specs.RowLaws.{AreInForce}
use Rattle.mz_steps.specs.Rows.{with_constants, owed}
use Rattle.mz_steps.specs.Effects.{Acts}
use Rattle.mz_steps.specs.Changes.{statement_of, with_stated}
use Rattle.mz_steps.specs.declared.read_step.ReadStep.{ReadStep}
use Rattle.mz_steps.specs.declared.read_step.ReadStep.TheVariants.{Let, Assume, Given, Thus, Take, Consider, Reconsider, Set, State}
use Rattle.mz_steps.specs.declared.block.Block.TheVariants.{Proof}
use Rattle.mz_steps.specs.declared.block.Effect.{Effect}
use Rattle.mz_steps.specs.declared.block.Effect.TheVariants.{Unchanged, Leaves, Says}
use Rattle.mz_steps_laws.specs.Facts.{facts, Rests}

-- the type of each variable is in force behind the variables before it, and the statement behind all; the first one has
-- the number n
abbrev pub AreDeclared : ℕ → List Variable → Statement → Type 0
AreDeclared n [] s = statement_in_force n s ≡ true
AreDeclared n (v ∷ vs) s = (type_in_force n v.ty ≡ true) × AreDeclared (suc n) vs s

-- the guards of the variables at their constants
abbrev pub guards_of : ℕ → List Variable → List Formula
guards_of n [] = []
guards_of n (v ∷ vs) = guard v.ty (Const n) ++ guards_of (suc n) vs

-- consider x1, .., xk such that A: where the existential derives, and the thesis from A and the guards of the constants,
-- the thesis derives
abbrev pub ThereAreLaw : Type 0
ThereAreLaw =
    (axioms premises : List Formula) (n : ℕ) (vs : List Variable) (s thesis : Statement) → AreInForce n premises → AreDeclared n vs s → statement_in_force n thesis ≡ true →
    Derives axioms premises (erase (there_are n vs s)) → Derives axioms (erase s ∷ guards_of n vs ++ premises) (erase thesis) → Derives axioms premises (erase thesis)

-- what a step says was read: its constants are in force, the terms that stand for something have no free index, and the
-- type of `set` is one that its term has
abbrev pub IsReadIn : List Formula → List Formula → Context → ReadStep → Type 0
IsReadIn axioms premises c (Let v) = type_in_force (next c) v.ty ≡ true
IsReadIn axioms premises c (Assume s) = Unit {0}
IsReadIn axioms premises c (Given vs s) = AreDeclared (next c) vs s
IsReadIn axioms premises c (Thus s) = Unit {0}
IsReadIn axioms premises c (Take t) = (closed t ≡ true) × (term_in_force (next c) t ≡ true)
IsReadIn axioms premises c (Consider vs s) = AreDeclared (next c) vs s
IsReadIn axioms premises c (Reconsider d) = (type_in_force (next c) d.ty ≡ true) × (closed d.term ≡ true) × (term_in_force (next c) d.term ≡ true)
IsReadIn axioms premises c (Set d) =
    (type_in_force (next c) d.ty ≡ true) × (closed d.term ≡ true) × (term_in_force (next c) d.term ≡ true) × ((f : Formula) → Contains (guard d.ty d.term) f → Derives axioms premises f)
IsReadIn axioms premises c (State s) = Unit {0}

-- what the step gives to those behind it, beside its constants
abbrev pub gained : ReadStep → List Statement
gained (Let v) = []
gained (Assume s) = s ∷ []
gained (Given vs s) = s ∷ []
gained (Thus s) = s ∷ []
gained (Take t) = []
gained (Consider vs s) = s ∷ []
gained (Reconsider d) = []
gained (Set d) = []
gained (State s) = s ∷ []

-- what has to be justified derives, where anything has
abbrev pub OwedDerives : List Formula → List Formula → Option Statement → Type 0
OwedDerives axioms premises None = Unit {0}
OwedDerives axioms premises (Some s) = Derives axioms premises (erase s)

-- the thesis behind a step that does this
abbrev pub thesis_left : Statement → Effect → Statement
thesis_left thesis Unchanged = thesis
thesis_left thesis (Leaves s) = s
thesis_left thesis (Says ps) = thesis

-- a step of a proof is sound: where what it owes derives, and what it leaves of the thesis derives from the context with
-- its constants and from what it gains, the thesis derives
abbrev pub StepInProofLaw : Type 0
StepInProofLaw =
    (axioms held : List Formula) (cs : List Clause) (us : List Unfolding) (c : Context) → Rests axioms held cs us c →
    (thesis : Statement) → c.thesis ≡ Some thesis → statement_in_force (next c) thesis ≡ true → statement_below 0 thesis ≡ true →
    (s : ReadStep) → IsReadIn axioms (facts c ++ held) c s → (e : Effect) → Acts cs us Proof c s (Some e) →
    OwedDerives axioms (facts c ++ held) (owed c s) →
    Derives axioms (facts (with_constants c s) ++ (map erase (gained s) ++ held)) (erase (thesis_left thesis e)) →
    Derives axioms (facts c ++ held) (erase thesis)

-- what is left of a thesis is in force behind the step, and has no free index
abbrev pub ThesisStandsLaw : Type 0
ThesisStandsLaw =
    (axioms held : List Formula) (cs : List Clause) (us : List Unfolding) (c : Context) → Rests axioms held cs us c →
    (thesis : Statement) → c.thesis ≡ Some thesis → statement_in_force (next c) thesis ≡ true → statement_below 0 thesis ≡ true →
    (s : ReadStep) → IsReadIn axioms (facts c ++ held) c s → (e : Effect) → Acts cs us Proof c s (Some e) →
    (statement_in_force (next (with_constants c s)) (thesis_left thesis e) ≡ true) × (statement_below 0 (thesis_left thesis e) ≡ true)

-- what a context says in which propositions were stated derives from what it said and from these
abbrev pub StatedLaw : Type 0
StatedLaw =
    (axioms premises : List Formula) (c : Context) (ps : List LabelledStatement) →
    ((f : Formula) → Contains (facts c) f → Derives axioms premises f) → ((p : LabelledStatement) → Contains ps p → Derives axioms premises (erase (statement_of p))) →
    (f : Formula) → Contains (facts (with_stated c ps)) f → Derives axioms premises f
