use Rattle.mz_nf.proofs.OneListLemmas.{count_law as law}
use Rattle.mz_nf.proofs.laws.count_law.Goals as goal

pub returns : goal.returns
returns c = law
