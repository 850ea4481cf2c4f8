use Rattle.std.proofs.Common.{length}
use Rattle.mz_items.proofs.cases.+push_implications.Given as goal

abbrev pub decreases-push_implications : goal.decreases-push_implications
decreases-push_implications l = length l.cs.now
