use Rattle.std.proofs.Common.{◌≡◌, map, take}
use Rattle.mz_instance_sizes.specs.Instances.{instance_size}
use Rattle.mz_instance_sizes.proofs.instances.+instance_size.Given as goal

abbrev pub invariant-instance_sizes-loop-t : goal.invariant-instance_sizes-loop-t
invariant-instance_sizes-loop-t l = l.out.items ≡ map (instance_size l.letters) (take l.t-index l.t-items)
