use Rattle.std.proofs.Common.{false, length}
use Rattle.mz_tree_proof.specs.Rules.{named_term_ends_in_list}
use Rattle.mz_pstep.specs.Forms.{named_term_form, goes_on_list}
use Rattle.mz_pstep.proofs.DividedLists.{ListSoFar}
use Rattle.mz_pstep.proofs.ListSteps.{linked_named}
use Rattle.mz_pstep.proofs.lists.named_terms.Given as goal

abbrev pub invariant-more : goal.invariant-more
invariant-more l = ListSoFar named_term_form named_term_ends_in_list goes_on_list linked_named l.fn.room l.first false l.items.items l.fn.reader.rest.now l.reader.rest.now

abbrev pub decreases-more : goal.decreases-more
decreases-more l = length l.reader.rest.now
