use Rattle.std.proofs.Common.{◌≡◌, ◌++◌}
use Rattle.mz_loci.specs.Loci.{locus_constants}
use Rattle.mz_loci.proofs.loci.locus_constants.Given as goal

abbrev pub invariant-loop-k : goal.invariant-loop-k
invariant-loop-k l = l.out ++ locus_constants l.least l.k ≡ locus_constants l.least l.count

abbrev pub decreases-loop-k : goal.decreases-loop-k
decreases-loop-k l = l.k
