use Rattle.std.proofs.Common.{length}
use Rattle.mz_grouping.specs.Open.{Closes}
use Rattle.mz_grouping.proofs.grouping.close_beaten.Given as goal

abbrev pub invariant-loop-o : goal.invariant-loop-o
invariant-loop-o l = Closes l.parts l.k l.rank l.after l.waiting l.steps.items

abbrev pub decreases-loop-o : goal.decreases-loop-o
decreases-loop-o l = length l.waiting
