use Rattle.std.proofs.Common.{length}
use Rattle.mz_ptype.specs.Forms.{goes_on_declared}
use Rattle.mz_pstep.proofs.DividedLists.{ListSoFar}
use Rattle.mz_tree_heading.specs.Rules.{field_ends_in_terms}
use Rattle.mz_ppart.specs.StructureForms.{field_form}
use Rattle.mz_ppart.proofs.FieldSteps.{linked_fields}
use Rattle.mz_ppart.proofs.structures.fields.Given as goal

abbrev pub invariant-more : goal.invariant-more
invariant-more l = ListSoFar field_form field_ends_in_terms goes_on_declared linked_fields l.fn.room l.first l.behind_terms l.items.items l.fn.reader.rest.now l.reader.rest.now

abbrev pub decreases-more : goal.decreases-more
decreases-more l = length l.reader.rest.now
