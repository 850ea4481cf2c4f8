use Rattle.std.proofs.Common.{length}
use Rattle.mz_structure_items.proofs.aggregates.+index_in.Given as goal

abbrev pub decreases-index_in : goal.decreases-index_in
decreases-index_in l = length l.order.now
