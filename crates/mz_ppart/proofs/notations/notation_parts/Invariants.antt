use Rattle.std.proofs.Common.{length}
use Rattle.mz_ppart.specs.Classes.{begins_notation_part}
use Rattle.mz_ppart.specs.Forms.{notation_part_form}
use Rattle.mz_ppart.proofs.ListedSteps.{ListedSoFar}
use Rattle.mz_ppart.proofs.NotationSteps.{repeats_parts}
use Rattle.mz_ppart.proofs.notations.notation_parts.Given as goal

abbrev pub invariant-list : goal.invariant-list
invariant-list l = ListedSoFar notation_part_form begins_notation_part begins_notation_part repeats_parts l.fn.room l.items.items l.fn.reader.rest.now l.reader.rest.now

abbrev pub decreases-list : goal.decreases-list
decreases-list l = length l.reader.rest.now
