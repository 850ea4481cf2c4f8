use Rattle.std.proofs.Common.{length}
use Rattle.mz_structure_items.proofs.aggregates.+push_loci.Given as goal

abbrev pub decreases-push_loci : goal.decreases-push_loci
decreases-push_loci l = length l.order.now
