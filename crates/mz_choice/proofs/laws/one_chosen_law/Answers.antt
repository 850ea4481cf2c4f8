use Rattle.mz_choice.proofs.OneChoice.{one_chosen_law}
use Rattle.mz_choice.proofs.laws.one_chosen_law.Goals as goal

pub returns : goal.returns
returns c = one_chosen_law
