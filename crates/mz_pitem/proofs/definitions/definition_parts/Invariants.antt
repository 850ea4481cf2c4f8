use Rattle.std.proofs.Common.{length}
use Rattle.mz_ppart.proofs.ListedSteps.{ListedSoFar}
use Rattle.mz_pitem.specs.Classes.{begins_definition_part, items}
use Rattle.mz_pitem.specs.Forms.{definition_part_form, goes_on_definition_parts}
use Rattle.mz_pitem.proofs.DefinitionSteps.{repeats_parts}
use Rattle.mz_pitem.proofs.definitions.definition_parts.Given as goal

abbrev pub invariant-list : goal.invariant-list
invariant-list l = ListedSoFar definition_part_form begins_definition_part goes_on_definition_parts repeats_parts l.fn.room l.items.items l.fn.reader.rest.now l.reader.rest.now

abbrev pub decreases-list : goal.decreases-list
decreases-list l = length l.reader.rest.now
