use Rattle.mz_nf.proofs.OneListLemmas.{one_list}
use Rattle.mz_nf.proofs.laws.one_list_law.Goals as goal

pub returns : goal.returns
returns c = one_list
