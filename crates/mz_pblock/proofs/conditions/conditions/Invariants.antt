use Rattle.std.proofs.Common.{length}
use Rattle.mz_ppart.proofs.ListedSteps.{ListedSoFar}
use Rattle.mz_pblock.specs.Classes.{begins_condition}
use Rattle.mz_pblock.specs.Forms.{condition_form}
use Rattle.mz_pblock.proofs.ConditionSteps.{repeats_conditions}
use Rattle.mz_pblock.proofs.conditions.conditions.Given as goal

abbrev pub invariant-list : goal.invariant-list
invariant-list l = ListedSoFar condition_form begins_condition begins_condition repeats_conditions l.fn.room l.items.items l.fn.reader.rest.now l.reader.rest.now

abbrev pub decreases-list : goal.decreases-list
decreases-list l = length l.reader.rest.now
