use Rattle.mz_fits.proofs.MatchSound.{match_law}
use Rattle.mz_fits.proofs.laws.match_law.Goals as goal

pub returns : goal.returns
returns c = match_law
