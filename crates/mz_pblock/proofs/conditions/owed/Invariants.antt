use Rattle.std.proofs.Common.{length}
use Rattle.mz_pblock.proofs.ConditionSteps.{OwedSoFar}
use Rattle.mz_pblock.proofs.conditions.owed.Given as goal

abbrev pub invariant-list : goal.invariant-list
invariant-list l = OwedSoFar l.fn.room l.fn.due l.still_due l.items.items l.fn.reader.rest.now l.reader.rest.now

abbrev pub decreases-list : goal.decreases-list
decreases-list l = length l.reader.rest.now
