-- One step as it was read, in its block: what the table of steps makes of it, within the limits.
use Rattle.std.specs.Prelude.{◌≡◌, Bool, true, false, List, [], ◌∷◌, map, Option, Some, None, Result, Ok, Err}
use Rattle.mz_base.specs.declared.place.Place.{Place}
use Rattle.mz_core.specs.Statement.{Statement}
use Rattle.mz_context.specs.declared.context.Context.{Context}
use Rattle.mz_context.specs.declared.labelled.LabelledStatement.{LabelledStatement}
use Rattle.mz_environment.specs.declared.environment.Environment.{Environment}
use Rattle.mz_names.specs.declared.refusal.Refusal.{Refusal}
use Rattle.mz_names.specs.declared.refusal.Refusal.TheVariants.{TooLarge}
use Rattle.mz_sizes.specs.Sizes.{statement_keeps}
use Rattle.mz_types.specs.Known.{typing}
use Rattle.mz_steps.specs.Changes.{block_after, context_after, with_stated}
use Rattle.mz_steps.specs.Effects.{Acts}
use Rattle.mz_steps.specs.declared.block.Block.{Block}
use Rattle.mz_steps.specs.declared.block.Block.TheVariants.{Proof, Now}
use Rattle.mz_steps.specs.declared.block.Effect.{Effect}
use Rattle.mz_steps.specs.declared.block.Effect.TheVariants.{Unchanged, Leaves, Says}
use Rattle.mz_steps.specs.declared.read_step.ReadStep.{ReadStep}
use Rattle.mz_parts.specs.Joined.{joined_within}
use Rattle.mz_justified.specs.declared.proof_fault.ProofRefusal.{ProofRefusal}
use Rattle.mz_justified.specs.declared.proof_fault.ProofRefusal.TheVariants.{StepNoFit, Resolve}
use Rattle.mz_walk.specs.Walked.{State}

-- what a step leaves of a thesis keeps the limits
abbrev pub keeps : Effect → Bool
keeps Unchanged = true
keeps (Leaves s) = statement_keeps s
keeps (Says ps) = true

-- the state behind a step that does this and states the propositions
abbrev pub state_after : State → ReadStep → Effect → List LabelledStatement → State
state_after s r a ps = record { context = context_after s.context r a ps; block = block_after s.block a; left = s.left }

-- a step, whose first token stands at the place, is performed, and states the propositions: it doesn't fit; or what it leaves
-- of the thesis is beyond the limits; or it leads to the state behind it
pub data Performs (e : Environment) (first : Place) (s : State) (r : ReadStep) (ps : List LabelledStatement) : Result State ProofRefusal → Type 0 where
  unfit : Acts (typing e s.context) e.steps s.block s.context r None → Performs e first s r ps (Err (StepNoFit first))
  beyond : (a : Effect) → Acts (typing e s.context) e.steps s.block s.context r (Some a) → keeps a ≡ false → Performs e first s r ps (Err (Resolve (TooLarge first)))
  performed : (a : Effect) → Acts (typing e s.context) e.steps s.block s.context r (Some a) → keeps a ≡ true → Performs e first s r ps (Ok (state_after s r a ps))

-- a step that states nothing
abbrev pub PerformsAlone : Environment → Place → State → ReadStep → Result State ProofRefusal → Type 0
PerformsAlone e first s r = Performs e first s r []

-- the state in which the propositions were stated last
abbrev pub stating : State → List LabelledStatement → State
stating s ps = record { context = with_stated s.context ps; block = s.block; left = s.left }

-- it, where the conjunction of the propositions keeps the limits
abbrev pub stating_if : State → List LabelledStatement → Result Statement Refusal → Result State ProofRefusal
stating_if s ps (Ok t) = Ok (stating s ps)
stating_if s ps (Err r) = Err (Resolve r)

abbrev pub stating_within : Place → State → List LabelledStatement → Result State ProofRefusal
stating_within first s ps = stating_if s ps (joined_within first ps)

-- a statement just before is there where one is wanted
abbrev pub is_linked : Bool → Option Statement → Bool
is_linked false o = true
is_linked true None = false
is_linked true (Some s) = true

-- the block is a `now`
abbrev pub is_now : Block → Bool
is_now Proof = false
is_now (Now ps) = true
