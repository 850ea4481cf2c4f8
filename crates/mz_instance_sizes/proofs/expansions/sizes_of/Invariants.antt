use Rattle.std.proofs.Common.{◌≡◌, map, take}
use Rattle.mz_instance_sizes.specs.Sizes.{term_size}
use Rattle.mz_instance_sizes.proofs.expansions.sizes_of.Given as goal

abbrev pub invariant-loop-t : goal.invariant-loop-t
invariant-loop-t l = l.out.items ≡ map term_size (take l.t-index l.t-items)
