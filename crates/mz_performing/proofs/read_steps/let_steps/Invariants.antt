use Rattle.std.proofs.Common.{◌≡◌, take, map}
use Rattle.mz_steps.specs.declared.read_step.ReadStep.TheVariants as read
use Rattle.mz_performing.proofs.read_steps.let_steps.Given as goal

abbrev pub invariant-loop-v : goal.invariant-loop-v
invariant-loop-v l = l.out ≡ map read.Let (take l.v-index l.v-items)
