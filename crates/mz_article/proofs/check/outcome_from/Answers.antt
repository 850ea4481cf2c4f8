use Rattle.mz_article.proofs.CheckLemmas.{told_stopped}
use Rattle.mz_article.proofs.check.outcome_from.Goals as goal

pub returns : goal.returns
returns g c = told_stopped c.args.name c.args.head.now c.args.parts.now c.args.s.now _ _ _ c.read_parts.result c.in-Err.fault c.items_refused.result c.read_parts.ensures c.in-Err.is c.items_refused.ensures
