use Rattle.std.proofs.Common.{length}
use Rattle.mz_grouping.specs.Open.{StandsSo}
use Rattle.mz_grouping.proofs.grouping.close_all.Given as goal

abbrev pub invariant-loop-o : goal.invariant-loop-o
invariant-loop-o l = StandsSo l.parts l.k l.waiting l.steps.items

abbrev pub decreases-loop-o : goal.decreases-loop-o
decreases-loop-o l = length l.waiting
