use Rattle.mz_compact.proofs.AheadLemmas.{told_terms_stop, told_terms_turn}
use Rattle.mz_compact.proofs.ahead.read_each.Goals as goal

pub loop-k-preserved : goal.loop-k-preserved
loop-k-preserved c = told_terms_turn _ _ _ _ _ _ _ _ _ _ _ _ _ _ c.in-Some.ensures.cases.0 c.term.ensures c.in-Ok.is c.in_ok-push-in-Ok.ensures.ok c.loop-k.invariant

pub returns-in-Refused : goal.returns-in-Refused
returns-in-Refused c = told_terms_stop _ _ _ _ _ _ _ _ _ _ _ _ _ _ c.in-Some.ensures.cases.0 c.term.ensures c.in-Err.is c.in-Refused.is c.loop-k.invariant
