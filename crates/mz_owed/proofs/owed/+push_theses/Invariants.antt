use Rattle.std.proofs.Common.{length}
use Rattle.mz_owed.proofs.owed.+push_theses.Given as goal

abbrev pub decreases-push_theses : goal.decreases-push_theses
decreases-push_theses l = length l.cs.now
