use Rattle.mz_cover_laws.proofs.Covers.{registered_law}
use Rattle.mz_cover_laws.proofs.laws.registered_law.Goals as goal

pub returns : goal.returns
returns z = registered_law
