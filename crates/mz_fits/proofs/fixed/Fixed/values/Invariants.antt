use Rattle.std.proofs.Common.{◌≡◌, drop}
use Rattle.mz_fits.specs.Matching.{values_of}
use Rattle.mz_fits.proofs.MatchLemmas.{with_values}
use Rattle.mz_fits.proofs.fixed.Fixed.values.Given as goal

abbrev pub invariant-loop-slot : goal.invariant-loop-slot
invariant-loop-slot l = values_of l.slot-items ≡ with_values l.out (values_of (drop l.slot-index l.slot-items))
