use Rattle.mz_standing_laws.proofs.ItemProofs.{start_law}
use Rattle.mz_standing_laws.proofs.laws.start_law.Goals as goal

pub returns : goal.returns
returns c = start_law
