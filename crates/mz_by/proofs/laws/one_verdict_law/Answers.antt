use Rattle.mz_by.proofs.OneVerdict.{one_verdict}
use Rattle.mz_by.proofs.laws.one_verdict_law.Goals as goal

pub returns : goal.returns
returns c = one_verdict
