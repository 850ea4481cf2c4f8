use Rattle.mz_cover_laws.proofs.Covers.{object_law}
use Rattle.mz_cover_laws.proofs.laws.object_law.Goals as goal

pub returns : goal.returns
returns z = object_law
