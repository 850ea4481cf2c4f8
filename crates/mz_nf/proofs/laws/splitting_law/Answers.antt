use Rattle.mz_nf.proofs.SoundLemmas.{splitting}
use Rattle.mz_nf.proofs.laws.splitting_law.Goals as goal

pub returns : goal.returns
returns c = splitting
