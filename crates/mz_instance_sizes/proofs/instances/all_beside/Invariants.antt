use Rattle.std.proofs.Common.{length}
use Rattle.mz_instance_sizes.proofs.BesideLemmas.{Done}
use Rattle.mz_instance_sizes.proofs.instances.all_beside.Given as goal

abbrev pub invariant-loop-x : goal.invariant-loop-x
invariant-loop-x l = Done l.sizes l.out l.rest

abbrev pub decreases-loop-x : goal.decreases-loop-x
decreases-loop-x l = length l.rest
