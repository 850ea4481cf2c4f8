-- What a step does where it stands: to the thesis of a proof, or to what a `now` states.
use Rattle.std.specs.Prelude.{◌≡◌, Bool, ◌&&◌, not, if◌then◌else◌, List, Option, Some, None}
use Rattle.std.specs.List.{list_any}
use Rattle.mz_core.specs.Statement.{Statement}
use Rattle.mz_context.specs.declared.context.Context.{Context}
use Rattle.mz_ground.specs.declared.clause.Clause.{Clause}
use Rattle.mz_environment.specs.declared.unfoldings.Unfolding.{Unfolding}
use Rattle.mz_thesis.specs.Applied.{Applied, most_unfoldings}
use Rattle.mz_thesis.specs.declared.step.Step.{Step}
use Rattle.mz_thesis.specs.declared.thesis_fault.ThesisFault.{ThesisFault}
use Rattle.mz_thesis.specs.declared.thesis_fault.ThesisFault.TheVariants.{NoFit, Memory}
use Rattle.mz_now.specs.Stated.{brings_hidden}
use Rattle.mz_steps.specs.Rows.{thesis_step, parts_said, stands_in_now}
use Rattle.mz_now.specs.declared.now_part.NowPart.{NowPart}
use Rattle.mz_steps.specs.declared.read_step.ReadStep.{ReadStep}
use Rattle.mz_steps.specs.declared.block.Block.{Block}
use Rattle.mz_steps.specs.declared.block.Block.TheVariants.{Proof, Now}
use Rattle.mz_steps.specs.declared.block.Effect.{Effect}
use Rattle.mz_steps.specs.declared.block.Effect.TheVariants.{Unchanged, Leaves, Says}

-- the thesis after the step is left, or the step doesn't fit
abbrev pub left_of : Option Statement → Option Effect
left_of None = None
left_of (Some s) = Some (Leaves s)

-- the step of the thesis leads on from the thesis, with at most eight unfoldings; where there is no thesis it doesn't fit
abbrev pub Led : List Clause → List Unfolding → Context → Option Statement → Step → Option Effect → Type 0
Led cs us c None step o = o ≡ None
Led cs us c (Some thesis) step o = (after : Option Statement) × Applied cs c.constants us most_unfoldings thesis step after × (o ≡ left_of after)

-- why it doesn't
abbrev pub IsUnled : List Clause → List Unfolding → Context → Option Statement → Step → ThesisFault → Type 0
IsUnled cs us c thesis step NoFit = Led cs us c thesis step None
IsUnled cs us c thesis step Memory = Unit {0}

-- what becomes of the thesis of a proof
abbrev pub ActsBy : List Clause → List Unfolding → Context → Option Step → Option Effect → Type 0
ActsBy cs us c None o = o ≡ Some Unchanged
ActsBy cs us c (Some step) o = Led cs us c c.thesis step o

abbrev pub IsUnfitBy : List Clause → List Unfolding → Context → Option Step → ThesisFault → Type 0
IsUnfitBy cs us c step NoFit = ActsBy cs us c step None
IsUnfitBy cs us c step Memory = Unit {0}

-- the step may be said where these parts were said
abbrev pub may_be_said : List NowPart → Context → ReadStep → Bool
may_be_said ps c s = stands_in_now s && not (list_any (brings_hidden ps) (parts_said ps c s))

abbrev pub says : List NowPart → Context → ReadStep → Option Effect
says ps c s = if may_be_said ps c s then Some (Says (parts_said ps c s)) else None

-- what the step does in the block; none where it doesn't fit
abbrev pub Acts : List Clause → List Unfolding → Block → Context → ReadStep → Option Effect → Type 0
Acts cs us Proof c s o = ActsBy cs us c (thesis_step c s) o
Acts cs us (Now ps) c s o = o ≡ says ps c s

-- why it does nothing
abbrev pub IsUnfit : List Clause → List Unfolding → Block → Context → ReadStep → ThesisFault → Type 0
IsUnfit cs us b c s NoFit = Acts cs us b c s None
IsUnfit cs us b c s Memory = Unit {0}
