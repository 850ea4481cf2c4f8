use Rattle.mz_forced.proofs.ForcedSound.{forced_derives}
use Rattle.mz_forced.proofs.laws.forced_law.Goals as goal

pub returns : goal.returns
returns c = forced_derives
