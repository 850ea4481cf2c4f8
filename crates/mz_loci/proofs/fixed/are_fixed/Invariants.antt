use Rattle.std.proofs.Common.{◌≡◌, length}
use Rattle.mz_loci.specs.Loci.{are_fixed}
use Rattle.mz_loci.proofs.fixed.are_fixed.Given as goal

abbrev pub invariant-loop-k : goal.invariant-loop-k
invariant-loop-k l = are_fixed l.least l.visible l.place l.rest ≡ are_fixed l.least l.visible 0 l.ks

abbrev pub decreases-loop-k : goal.decreases-loop-k
decreases-loop-k l = length l.rest
