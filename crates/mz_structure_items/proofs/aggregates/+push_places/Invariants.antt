use Rattle.std.proofs.Common.{length}
use Rattle.mz_structure_items.proofs.aggregates.+push_places.Given as goal

abbrev pub decreases-push_places : goal.decreases-push_places
decreases-push_places l = length l.fs.now
