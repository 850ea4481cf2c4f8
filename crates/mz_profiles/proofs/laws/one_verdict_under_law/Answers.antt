use Rattle.mz_profiles.proofs.OneVerdict.{one_verdict_under}
use Rattle.mz_profiles.proofs.laws.one_verdict_under_law.Goals as goal

pub returns : goal.returns
returns c = one_verdict_under
