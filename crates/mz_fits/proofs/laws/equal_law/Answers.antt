use Rattle.mz_fits.proofs.SoundLemmas.{equal_derives}
use Rattle.mz_fits.proofs.laws.equal_law.Goals as goal

pub returns : goal.returns
returns c = equal_derives
