use Rattle.std.proofs.Common.{false, length}
use Rattle.mz_tree.specs.Rules.{ends_in_terms}
use Rattle.mz_tree.specs.Views.{type_of}
use Rattle.mz_ptype.specs.Forms.{whole_type, goes_on_declared}
use Rattle.mz_pstep.proofs.DividedLists.{ListSoFar}
use Rattle.mz_pstep.proofs.ListSteps.{linked_types}
use Rattle.mz_pstep.proofs.lists.types.Given as goal

abbrev pub invariant-more : goal.invariant-more
invariant-more l = ListSoFar (whole_type false) ends_in_terms goes_on_declared linked_types l.fn.room (type_of l.first_node.value) l.behind_terms l.items.items l.fn.reader.rest.now l.reader.rest.now

abbrev pub decreases-more : goal.decreases-more
decreases-more l = length l.reader.rest.now
