use Rattle.std.proofs.Common.{length}
use Rattle.mz_structure_items.proofs.selectors.+push_of_first.Given as goal

abbrev pub decreases-push_of_first : goal.decreases-push_of_first
decreases-push_of_first l = length l.all.now
