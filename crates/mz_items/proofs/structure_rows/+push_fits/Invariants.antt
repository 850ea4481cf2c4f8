use Rattle.std.proofs.Common.{length}
use Rattle.mz_items.proofs.structure_rows.+push_fits.Given as goal

abbrev pub decreases-push_fits : goal.decreases-push_fits
decreases-push_fits l = length l.fs.now
