use Rattle.std.proofs.Common.{length}
use Rattle.mz_structure_items.proofs.selectors.+push_of_notations.Given as goal

abbrev pub decreases-push_of_notations : goal.decreases-push_of_notations
decreases-push_of_notations l = length l.xs.now
