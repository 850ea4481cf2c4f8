use Rattle.mz_cover_laws.proofs.Covers.{covered_law}
use Rattle.mz_cover_laws.proofs.laws.covered_law.Goals as goal

pub returns : goal.returns
returns z = covered_law
