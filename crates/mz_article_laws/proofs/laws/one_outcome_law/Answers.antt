use Rattle.mz_article_laws.proofs.OneOutcome.{one_outcome}
use Rattle.mz_article_laws.proofs.laws.one_outcome_law.Goals as goal

pub returns : goal.returns
returns c = one_outcome
