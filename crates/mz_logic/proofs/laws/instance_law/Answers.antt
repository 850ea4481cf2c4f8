use Rattle.mz_logic.proofs.Rules.{instance_of}
use Rattle.mz_logic.proofs.laws.instance_law.Goals as goal

pub returns : goal.returns
returns c = instance_of
