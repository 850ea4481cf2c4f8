use Rattle.std.proofs.Common.{length}
use Rattle.mz_patterns.proofs.PlaceLemmas.{Putting}
use Rattle.mz_patterns.proofs.patterns.put_further.Given as goal

abbrev pub invariant-loop-w : goal.invariant-loop-w
invariant-loop-w l = Putting l.ks l.rest l.out l.ws l.initial.out

abbrev pub decreases-loop-w : goal.decreases-loop-w
decreases-loop-w l = length l.rest
