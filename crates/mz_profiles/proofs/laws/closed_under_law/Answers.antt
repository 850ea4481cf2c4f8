use Rattle.mz_profiles.proofs.ProfileLemmas.{closed_under}
use Rattle.mz_profiles.proofs.laws.closed_under_law.Goals as goal

pub returns : goal.returns
returns c = closed_under
