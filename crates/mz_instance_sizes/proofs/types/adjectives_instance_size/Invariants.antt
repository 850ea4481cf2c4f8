use Rattle.std.proofs.Common.{◌≡◌, map, take}
use Rattle.mz_instance_sizes.specs.Sizes.{all_beside}
use Rattle.mz_instance_sizes.specs.Instances.{adjective_instance_size}
use Rattle.mz_instance_sizes.proofs.types.adjectives_instance_size.Given as goal

abbrev pub invariant-loop-a : goal.invariant-loop-a
invariant-loop-a l = l.out ≡ all_beside (map (adjective_instance_size l.letters) (take l.a-index l.a-items))
