use Rattle.std.proofs.Common.{length}
use Rattle.mz_ptype.specs.Forms.{goes_on_declared}
use Rattle.mz_pstep.proofs.DividedLists.{ListSoFar}
use Rattle.mz_tree_part.specs.Rules.{segment_ends_in_terms}
use Rattle.mz_ppart.specs.Forms.{segment_form}
use Rattle.mz_ppart.proofs.ReserveSteps.{linked_segments}
use Rattle.mz_ppart.proofs.reserves.segments.Given as goal

abbrev pub invariant-more : goal.invariant-more
invariant-more l = ListSoFar segment_form segment_ends_in_terms goes_on_declared linked_segments l.fn.room l.first l.behind_terms l.items.items l.fn.reader.rest.now l.reader.rest.now

abbrev pub decreases-more : goal.decreases-more
decreases-more l = length l.reader.rest.now
