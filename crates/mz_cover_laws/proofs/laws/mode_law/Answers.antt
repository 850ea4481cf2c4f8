use Rattle.mz_cover_laws.proofs.Modes.{mode_law}
use Rattle.mz_cover_laws.proofs.laws.mode_law.Goals as goal

pub returns : goal.returns
returns z = mode_law
