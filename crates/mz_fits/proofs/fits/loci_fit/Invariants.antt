use Rattle.std.proofs.Common.{[], length}
use Rattle.std.specs.Prelude.{◌↔◌}
use Rattle.mz_fits.specs.Fits.{LociFit}
use Rattle.mz_fits.proofs.fits.loci_fit.Given as goal

abbrev pub invariant-loop-ty : goal.invariant-loop-ty
invariant-loop-ty l = LociFit l.clauses l.constants l.before l.tys l.ts ↔ LociFit l.clauses l.constants [] l.loci l.values

abbrev pub decreases-loop-ty : goal.decreases-loop-ty
decreases-loop-ty l = length l.tys
