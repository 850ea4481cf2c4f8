use Rattle.mz_fits.proofs.OneMatch.{one_match_law}
use Rattle.mz_fits.proofs.laws.one_match_law.Goals as goal

pub returns : goal.returns
returns c = one_match_law
