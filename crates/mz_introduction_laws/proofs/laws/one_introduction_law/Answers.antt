use Rattle.mz_introduction_laws.proofs.OneIntroduction.{one_introduction}
use Rattle.mz_introduction_laws.proofs.laws.one_introduction_law.Goals as goal

pub returns : goal.returns
returns c = one_introduction
