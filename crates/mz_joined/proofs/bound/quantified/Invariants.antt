use Rattle.std.proofs.Common.{length}
use Rattle.mz_joined.proofs.BoundLemmas.{Turned}
use Rattle.mz_joined.proofs.bound.quantified.Given as goal

abbrev pub invariant-loop-v : goal.invariant-loop-v
invariant-loop-v l = Turned l.first l.n l.vs l.fn.s l.rest l.out l.number

abbrev pub decreases-loop-v : goal.decreases-loop-v
decreases-loop-v l = length l.rest
