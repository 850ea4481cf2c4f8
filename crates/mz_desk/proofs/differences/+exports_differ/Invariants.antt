use Rattle.std.proofs.Common.{length}
use Rattle.mz_desk.proofs.differences.+exports_differ.Given as goal

abbrev pub decreases-exports_differ : goal.decreases-exports_differ
decreases-exports_differ l = length l.library.now
