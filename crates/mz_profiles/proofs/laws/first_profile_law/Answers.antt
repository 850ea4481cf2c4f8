use Rattle.mz_profiles.proofs.ProfileLemmas.{first_profile}
use Rattle.mz_profiles.proofs.laws.first_profile_law.Goals as goal

pub returns : goal.returns
returns c = first_profile
