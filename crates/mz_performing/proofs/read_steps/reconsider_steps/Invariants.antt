use Rattle.std.proofs.Common.{◌≡◌, take, map}
use Rattle.mz_steps.specs.declared.read_step.ReadStep.TheVariants as read
use Rattle.mz_performing.proofs.read_steps.reconsider_steps.Given as goal

abbrev pub invariant-loop-d : goal.invariant-loop-d
invariant-loop-d l = l.out ≡ map read.Reconsider (take l.d-index l.d-items)
