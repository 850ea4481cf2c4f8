use Rattle.mz_front.proofs.OneFront.{one_front}
use Rattle.mz_front.proofs.laws.one_front_law.Goals as goal

pub returns : goal.returns
returns c = one_front
