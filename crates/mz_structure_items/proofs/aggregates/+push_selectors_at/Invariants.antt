use Rattle.std.proofs.Common.{length}
use Rattle.mz_structure_items.proofs.aggregates.+push_selectors_at.Given as goal

abbrev pub decreases-push_selectors_at : goal.decreases-push_selectors_at
decreases-push_selectors_at l = length l.order.now
