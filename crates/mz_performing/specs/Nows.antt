-- What stands behind a `now`.
use Rattle.std.specs.Prelude.{◌≡◌, ℕ, Bool, List, [], ◌∷◌, Some, None, Result, Ok, Err}
use Rattle.mz_base.specs.declared.place.Place.{Place}
use Rattle.mz_core.specs.Statement.{Statement}
use Rattle.mz_environment.specs.declared.environment.Environment.{Environment}
use Rattle.mz_names.specs.declared.refusal.Refusal.TheVariants.{TooLarge}
use Rattle.mz_steps.specs.declared.block.Block.{Block}
use Rattle.mz_justified.specs.declared.proof_fault.ProofRefusal.{ProofRefusal}
use Rattle.mz_justified.specs.declared.proof_fault.ProofRefusal.TheVariants.{Resolve}
use Rattle.mz_walk.specs.Walked.{State}
use Rattle.mz_walk.specs.Performing.{Performs}
use Rattle.mz_walk.specs.Compact.{stated_under}
use Rattle.mz_walk.specs.Walk.{step_of, stated_in}

-- what the steps of the block inside state is stated under the label, or it is beyond the limits
pub data StatesNow (e : Environment) (first : Place) (s : State) (concluded : Bool) (label : List ℕ) (inside : Block) : Result State ProofRefusal → Type 0 where
  too_large : stated_in inside ≡ None → StatesNow e first s concluded label inside (Err (Resolve (TooLarge first)))
  stated : (x : Statement) (o : Result State ProofRefusal) → stated_in inside ≡ Some x → Performs e first s (step_of concluded x) (stated_under label x ∷ []) o → StatesNow e first s concluded label inside o
