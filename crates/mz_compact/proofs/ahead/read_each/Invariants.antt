use Rattle.std.proofs.Common.{length}
use Rattle.mz_compact.proofs.AheadLemmas.{Begins}
use Rattle.mz_compact.proofs.ahead.read_each.Given as goal

abbrev pub invariant-loop-k : goal.invariant-loop-k
invariant-loop-k l = Begins l.walker.env.now l.ctx l.left l.rest l.out l.initial.left l.sides l.initial.out

abbrev pub decreases-loop-k : goal.decreases-loop-k
decreases-loop-k l = length l.rest
