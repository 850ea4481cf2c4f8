use Rattle.std.proofs.Common.{length}
use Rattle.mz_from.proofs.letters.+fits_over.Given as goal

abbrev pub decreases-fits_over : goal.decreases-fits_over
decreases-fits_over l = length l.places.now
