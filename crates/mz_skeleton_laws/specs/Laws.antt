-- Laws of steps in their blocks: each leads to one state, or to one refusal.
use Rattle.std.specs.Prelude.{List}
use Rattle.mz_base.specs.declared.place.Place.{Place}
use Rattle.mz_context.specs.declared.labelled.LabelledStatement.{LabelledStatement}
use Rattle.mz_environment.specs.declared.environment.Environment.{Environment}
use Rattle.mz_steps.specs.declared.read_step.ReadStep.{ReadStep}
use Rattle.mz_tree_proof.specs.declared.skeleton.SkeletonTree.{SkeletonTree}
use Rattle.mz_justified_laws.specs.Determined.{AtMostOne}
use Rattle.mz_walk.specs.Walked.{State}
use Rattle.mz_walk.specs.Performing.{Performs}
use Rattle.mz_walk.specs.Skeleton.{StepsOn}

abbrev pub OnePerformedLaw : Type 0
OnePerformedLaw = (e : Environment) (first : Place) (s : State) (r : ReadStep) (ps : List LabelledStatement) → AtMostOne (Performs e first s r ps)

abbrev pub OneSkeletonLaw : Type 0
OneSkeletonLaw = (e : Environment) (first : Place) (s : State) (t : SkeletonTree) → AtMostOne (StepsOn e first s t)
