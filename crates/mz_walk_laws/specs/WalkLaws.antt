-- Reasonings are sound.
use Rattle.std.specs.Prelude.{◌≡◌, Bool, List, ◌++◌, None}
use Rattle.mz_base.specs.declared.place.Place.{Place}
use Rattle.mz_logic.specs.Formula.{Formula}
use Rattle.mz_logic.specs.Derives.{Derives}
use Rattle.mz_core.specs.Statement.{Statement}
use Rattle.mz_core.specs.Erasure.{erase}
use Rattle.mz_core.specs.declared.outcome.Left.{Left}
use Rattle.mz_context.specs.Context.{next}
use Rattle.mz_context.specs.declared.context.Context.{Context}
use Rattle.mz_names.specs.Closing.{for_all}
use Rattle.mz_formulas.specs.declared.sentence.Sentence.{Sentence}
use Rattle.mz_tree_proof.specs.Reasoning.{JustData, StatementData, StepList}
use Rattle.mz_steps.specs.Changes.{at_start_of_proof}
use Rattle.mz_steps.specs.declared.block.Block.TheVariants.{Proof}
use Rattle.mz_obligations.specs.declared.obligation.Extent.{Extent}
use Rattle.mz_obligations.specs.declared.obligation.Obligation.{Obligation}
use Rattle.mz_steps_laws.specs.Facts.{facts}
use Rattle.mz_block_laws.specs.Orders.{Stands, AllStand}
use Rattle.mz_block_laws.specs.Met.{AreMet}
use Rattle.mz_walk.specs.Walked.{State, state, Made}
use Rattle.mz_walk.specs.Walk.{Justifies, Proves, States}
use Rattle.mz_walk_laws.specs.Grounds.{Basis, IsGrounded, ReadsWell, IsProper}

-- where the obligations of a proof's steps are met, its thesis derives
abbrev pub SkeletonLaw : (Context → Type 0) → Type 0
SkeletonLaw whole =
    (b : Basis) → ReadsWell b.env whole → (held : List Formula) → IsGrounded b held → (c : Context) → IsProper whole b held c → (thesis : Statement) → Stands (next c) thesis →
    (at : Extent) (ds : StepList) (end : Place) (left after : Left) (os : List Obligation) → Proves b.env at (at_start_of_proof c thesis) ds end left (Made os after) →
    AreMet b.axioms b.clauses os → Derives b.axioms (facts c ++ held) (erase thesis)

-- where the obligations of a justification are met, the sentence derives
abbrev pub JustificationLaw : (Context → Type 0) → Type 0
JustificationLaw whole =
    (b : Basis) → ReadsWell b.env whole → (held : List Formula) → IsGrounded b held → (c : Context) → IsProper whole b held c →
    (x : Sentence) → AllStand (next c) x.variables x.inner → x.closed ≡ for_all (next c) x.variables x.inner →
    (at : Extent) (first behind : Place) (linked : Bool) (j : JustData) (left after : Left) (os : List Obligation) → Justifies b.env at c first linked behind j x left (Made os after) →
    AreMet b.axioms b.clauses os → Derives b.axioms (facts c ++ held) (erase x.closed)

-- where the obligations of a statement of the article's own level are met, one may reason on behind it, and each statement of
-- the constants before it that derives behind it derives before it
abbrev pub StatementLaw : (Context → Type 0) → Type 0
StatementLaw whole =
    (b : Basis) → ReadsWell b.env whole → (held : List Formula) → IsGrounded b held → (c : Context) → IsProper whole b held c → c.thesis ≡ None →
    (at : Extent) (first : Place) (t : StatementData) (left : Left) (os : List Obligation) (d : State) → States b.env at (state c Proof left) first t (Made os d) → AreMet b.axioms b.clauses os →
    IsProper whole b held d.context × (d.context.thesis ≡ None) ×
    ((s : Statement) → Stands (next c) s → Derives b.axioms (facts d.context ++ held) (erase s) → Derives b.axioms (facts c ++ held) (erase s))
