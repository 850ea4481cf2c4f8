use Rattle.std.proofs.Common.{◌≡◌}
use Rattle.mz_fits.specs.Matching.{unfixed}
use Rattle.mz_fits.proofs.fixed.Fixed.none.Given as goal

abbrev pub invariant-loop-place : goal.invariant-loop-place
invariant-loop-place l = l.items.items ≡ unfixed l.place
