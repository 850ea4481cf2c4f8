use Rattle.mz_profiles.proofs.ProfileLemmas.{both_profiles}
use Rattle.mz_profiles.proofs.laws.both_profiles_law.Goals as goal

pub returns : goal.returns
returns c = both_profiles
