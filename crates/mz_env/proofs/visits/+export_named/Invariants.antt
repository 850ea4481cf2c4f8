use Rattle.std.proofs.Common.{ℕ, length}
use Rattle.mz_env.proofs.visits.+export_named.Given as goal

abbrev pub decreases-export_named : goal.decreases-export_named
decreases-export_named l = length l.exports.now
