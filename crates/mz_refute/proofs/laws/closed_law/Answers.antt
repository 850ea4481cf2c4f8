use Rattle.mz_refute.proofs.RefutedSound.{closed_derives}
use Rattle.mz_refute.proofs.laws.closed_law.Goals as goal

pub returns : goal.returns
returns c = closed_derives
