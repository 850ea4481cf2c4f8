use Rattle.mz_fits.proofs.SoundLemmas.{literal_derives}
use Rattle.mz_fits.proofs.laws.literal_law.Goals as goal

pub returns : goal.returns
returns c = literal_derives
