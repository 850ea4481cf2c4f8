use Rattle.mz_cover_laws.proofs.Covers.{radix_law}
use Rattle.mz_cover_laws.proofs.laws.radix_law.Goals as goal

pub returns : goal.returns
returns z = radix_law
