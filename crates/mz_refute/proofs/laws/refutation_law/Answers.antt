use Rattle.mz_refute.proofs.RefutedSound.{refuted_derives}
use Rattle.mz_refute.proofs.laws.refutation_law.Goals as goal

pub returns : goal.returns
returns c = refuted_derives
