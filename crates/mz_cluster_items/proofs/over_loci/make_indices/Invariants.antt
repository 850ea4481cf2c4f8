use Rattle.std.proofs.Common.{◌≡◌}
use Rattle.mz_cluster_items.specs.OverLoci.{term_over_loci}
use Rattle.mz_cluster_items.proofs.over_loci.make_indices.Given as goal

abbrev pub invariant-loop-k : goal.invariant-loop-k
invariant-loop-k l = l.t ≡ term_over_loci l.least l.k l.initial.t
