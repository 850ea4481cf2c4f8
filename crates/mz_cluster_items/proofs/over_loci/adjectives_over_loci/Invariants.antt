use Rattle.std.proofs.Common.{◌≡◌, map, take}
use Rattle.mz_cluster_items.specs.OverLoci.{adjective_over_loci}
use Rattle.mz_cluster_items.proofs.over_loci.adjectives_over_loci.Given as goal

abbrev pub invariant-loop-a : goal.invariant-loop-a
invariant-loop-a l = l.out.items ≡ map (adjective_over_loci l.least l.count) (take l.a-index l.a-items)
