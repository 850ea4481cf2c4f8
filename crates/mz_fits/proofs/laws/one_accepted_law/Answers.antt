use Rattle.mz_fits.proofs.OneMatch.{one_accepted_law}
use Rattle.mz_fits.proofs.laws.one_accepted_law.Goals as goal

pub returns : goal.returns
returns c = one_accepted_law
