use Rattle.mz_choice.proofs.OneChoice.{one_member_law}
use Rattle.mz_choice.proofs.laws.one_member_law.Goals as goal

pub returns : goal.returns
returns c = one_member_law
