use Rattle.mz_judged.proofs.OneJudgement.{one_judgement}
use Rattle.mz_judged.proofs.laws.one_judgement_law.Goals as goal

pub returns : goal.returns
returns c = one_judgement
