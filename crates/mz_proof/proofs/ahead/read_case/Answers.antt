use Rattle.mz_proof.proofs.AheadLemmas.{told_read, told_unreadable}
use Rattle.mz_proof.proofs.ahead.read_case.Goals as goal

pub returns-in_ok-push-in-Ok-clause-reads : goal.returns-in_ok-push-in-Ok-clause-reads
returns-in_ok-push-in-Ok-clause-reads c = told_read _ _ _ _ _ _ _ _ _ _ _ _ _ _ _ _ c.case_parts.ensures c.read_hypotheses.ensures.reads c.in-Ok.is c.in_ok-s-in-Ok.ensures c.in_ok-push-in-Ok.ensures.ok

pub returns-in-Refused-clause-reads : goal.returns-in-Refused-clause-reads
returns-in-Refused-clause-reads c = told_unreadable _ _ _ _ _ _ _ _ _ _ _ _ _ _ c.case_parts.ensures c.read_hypotheses.ensures.reads c.in-Err.is c.in-Refused.is
