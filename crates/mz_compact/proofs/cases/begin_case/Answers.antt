use Rattle.mz_performing.proofs.CaseLemmas.{told_unread, told_unjoined}
use Rattle.mz_compact.proofs.cases.begin_case.Goals as goal

pub returns-in-Ok : goal.returns-in-Ok
returns-in-Ok c = told_unjoined _ _ _ _ _ _ _ _ _ _ c.read_hypotheses.ensures.reads c.in-Ok.is c.in_ok-s-in-Ok.ensures c.in-Err-2.is

pub returns : goal.returns
returns c = told_unread _ _ _ _ _ _ _ _ _ _ _ _ c.read_hypotheses.ensures.reads c.in-Err.is c.resolved.ensures
