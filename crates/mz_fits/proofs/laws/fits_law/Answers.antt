use Rattle.mz_fits.proofs.SoundLemmas.{fits_derives}
use Rattle.mz_fits.proofs.laws.fits_law.Goals as goal

pub returns : goal.returns
returns c = fits_derives
