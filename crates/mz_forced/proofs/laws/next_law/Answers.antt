use Rattle.mz_forced.proofs.ForcedSound.{next_granted}
use Rattle.mz_forced.proofs.laws.next_law.Goals as goal

pub returns : goal.returns
returns c = next_granted
