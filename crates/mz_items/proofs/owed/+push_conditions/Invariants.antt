use Rattle.std.proofs.Common.{length}
use Rattle.mz_items.proofs.owed.+push_conditions.Given as goal

abbrev pub decreases-push_conditions : goal.decreases-push_conditions
decreases-push_conditions l = length l.cs.now
