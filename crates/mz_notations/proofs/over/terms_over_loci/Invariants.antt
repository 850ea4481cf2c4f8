use Rattle.std.proofs.Common.{◌≡◌, map, take}
use Rattle.mz_cluster_items.specs.OverLoci.{term_over_loci}
use Rattle.mz_notations.proofs.over.terms_over_loci.Given as goal

abbrev pub invariant-loop-t : goal.invariant-loop-t
invariant-loop-t l = l.out.items ≡ map (term_over_loci l.least l.count) (take l.t-index l.t-items)
