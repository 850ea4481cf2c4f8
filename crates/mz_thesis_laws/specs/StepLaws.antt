-- Laws of unfoldings, and of a step as a whole: whoever derives what is left has derived the thesis.
use Rattle.std.specs.Prelude.{◌≡◌, ◌≤◌, ℕ, true, List, [], ◌∷◌, ◌++◌, Contains, Option, Some}
use Rattle.mz_logic.specs.Term.{Term, Const}
use Rattle.mz_logic.specs.Formula.{Formula}
use Rattle.mz_logic.specs.Indices.{closed}
use Rattle.mz_logic.specs.Derives.{Derives}
use Rattle.mz_core.specs.Statement.{Statement}
use Rattle.mz_core.specs.Guard.{guard}
use Rattle.mz_core.specs.Erasure.{erase}
use Rattle.mz_core.specs.InForce.{type_in_force, statement_in_force}
use Rattle.mz_core.specs.Below.{statement_below}
use Rattle.mz_context.specs.Context.{numbers}
use Rattle.mz_context.specs.declared.constants.Constant.{Constant}
use Rattle.mz_ground.specs.declared.clause.Clause.{Clause}
use Rattle.mz_environment.specs.declared.unfoldings.Unfolding.{Unfolding}
use Rattle.mz_closed_laws.specs.ClosedClauses.{unfolding_closed}
use Rattle.mz_unfolding_laws.specs.UnfoldingLaw.{Unfolds}
use Rattle.mz_fits.specs.Laws.{AreGranted}
use Rattle.mz_thesis.specs.Unfolding.{UnfoldsTo}
use Rattle.mz_thesis.specs.Applied.{Applied}
use Rattle.mz_thesis.specs.declared.step.Step.{Step}
use Rattle.mz_thesis.specs.declared.step.Step.TheVariants.{Let, Assume, Thus, Take}
use Rattle.mz_thesis_laws.specs.RowLaws.{AreInForce}

-- what each unfolding says derives from the axioms, and it has no constant and no loose index
abbrev pub AreUnfoldings : List Formula → List Unfolding → Type 0
AreUnfoldings axioms us = (u : Unfolding) → Contains us u → Unfolds axioms u × (unfolding_closed u ≡ true)

-- an atom or an equation without free indices derives exactly where what it unfolds to does
abbrev pub UnfoldsLaw : Type 0
UnfoldsLaw =
    (axioms premises : List Formula) (cs : List Clause) (ks : List (Option Constant)) (us : List Unfolding) → AreGranted axioms premises cs ks → AreUnfoldings axioms us →
    (s d : Statement) → statement_below 0 s ≡ true → UnfoldsTo cs ks us s (Some d) →
    (Derives axioms premises (erase d) → Derives axioms premises (erase s)) × (Derives axioms premises (erase s) → Derives axioms premises (erase d))

-- what a step says was read: the constant of `let` isn't in force, and those of its type are; the term of `take` is closed
abbrev pub IsRead : ℕ → Step → Type 0
IsRead next (Let c ty) = (next ≤ c) × (type_in_force next ty ≡ true)
IsRead next (Assume s) = Unit {0}
IsRead next (Thus s) = Unit {0}
IsRead next (Take t) = closed t ≡ true

-- what is left to be derived behind a step, where `after` is the thesis after it: from the guard of the constant of
-- `let`, from what was assumed, from what was concluded, which derives itself
abbrev pub IsLeft : List Formula → List Formula → Step → Statement → Type 0
IsLeft axioms premises (Let c ty) after = Derives axioms (guard ty (Const c) ++ premises) (erase after)
IsLeft axioms premises (Assume s) after = Derives axioms (erase s ∷ premises) (erase after)
IsLeft axioms premises (Thus s) after = Derives axioms premises (erase s) × Derives axioms (erase s ∷ premises) (erase after)
IsLeft axioms premises (Take t) after = Derives axioms premises (erase after)

-- a step that fits, after some unfoldings or none, is sound
abbrev pub StepLaw : Type 0
StepLaw =
    (axioms premises : List Formula) (cs : List Clause) (ks : List (Option Constant)) (us : List Unfolding) → AreGranted axioms premises cs ks → AreUnfoldings axioms us →
    AreInForce (numbers ks) premises →
    (most : ℕ) (thesis after : Statement) (step : Step) → statement_in_force (numbers ks) thesis ≡ true → statement_below 0 thesis ≡ true → IsRead (numbers ks) step →
    Applied cs ks us most thesis step (Some after) → IsLeft axioms premises step after → Derives axioms premises (erase thesis)
