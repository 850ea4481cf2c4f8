use Rattle.std.proofs.Common.{◌≡◌, ◌++◌, length}
use Rattle.mz_loci.specs.Loci.{types_behind, locus_types}
use Rattle.mz_loci.proofs.loci.locus_types.Given as goal

abbrev pub invariant-loop-k : goal.invariant-loop-k
invariant-loop-k l = l.out ++ types_behind l.least l.before l.rest ≡ locus_types l.least l.ks

abbrev pub decreases-loop-k : goal.decreases-loop-k
decreases-loop-k l = length l.rest
