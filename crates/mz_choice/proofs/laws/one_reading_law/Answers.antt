use Rattle.mz_choice.proofs.OneChoice.{one_reading_law}
use Rattle.mz_choice.proofs.laws.one_reading_law.Goals as goal

pub returns : goal.returns
returns c = one_reading_law
