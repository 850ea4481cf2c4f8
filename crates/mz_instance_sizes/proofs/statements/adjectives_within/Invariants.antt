use Rattle.std.proofs.Common.{◌≡◌, map, take}
use Rattle.mz_instance_sizes.specs.Sizes.{all_beside}
use Rattle.mz_instance_sizes.specs.Within.{adjective_within}
use Rattle.mz_instance_sizes.proofs.statements.adjectives_within.Given as goal

abbrev pub invariant-loop-a : goal.invariant-loop-a
invariant-loop-a l = l.out ≡ all_beside (map (adjective_within l.sizes l.depth) (take l.a-index l.a-items))
