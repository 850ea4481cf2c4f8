use Rattle.std.proofs.Common.{length}
use Rattle.mz_owed.proofs.owed.+push_owed.Given as goal

abbrev pub decreases-push_owed : goal.decreases-push_owed
decreases-push_owed l = length l.cs.now
