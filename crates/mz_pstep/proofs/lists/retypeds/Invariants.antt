use Rattle.std.proofs.Common.{false, length}
use Rattle.mz_tree_proof.specs.Rules.{retyped_ends_in_list}
use Rattle.mz_pstep.specs.Forms.{retyped_form, goes_on_list}
use Rattle.mz_pstep.proofs.DividedLists.{ListSoFar}
use Rattle.mz_pstep.proofs.ListSteps.{linked_retyped}
use Rattle.mz_pstep.proofs.lists.retypeds.Given as goal

abbrev pub invariant-more : goal.invariant-more
invariant-more l = ListSoFar retyped_form retyped_ends_in_list goes_on_list linked_retyped l.fn.room l.first false l.items.items l.fn.reader.rest.now l.reader.rest.now

abbrev pub decreases-more : goal.decreases-more
decreases-more l = length l.reader.rest.now
