use Rattle.std.proofs.Common.{length}
use Rattle.mz_structure_items.proofs.selectors.+push_selectors.Given as goal

abbrev pub decreases-push_selectors : goal.decreases-push_selectors
decreases-push_selectors l = length l.xs.now
