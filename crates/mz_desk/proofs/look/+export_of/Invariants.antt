use Rattle.std.proofs.Common.{length}
use Rattle.mz_desk.proofs.look.+export_of.Given as goal

abbrev pub decreases-export_of : goal.decreases-export_of
decreases-export_of l = length l.exports.now
