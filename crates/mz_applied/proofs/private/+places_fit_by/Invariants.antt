use Rattle.std.proofs.Common.{length}
use Rattle.mz_applied.proofs.private.+places_fit_by.Given as goal

abbrev pub decreases-places_fit_by : goal.decreases-places_fit_by
decreases-places_fit_by l = length l.places.now
