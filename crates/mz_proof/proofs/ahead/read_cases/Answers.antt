use Rattle.mz_proof.proofs.AheadLemmas.{told_read_stop, told_read_end}
use Rattle.mz_proof.proofs.ahead.read_cases.Goals as goal

pub returns-then-not-branch-2-clause-reads : goal.returns-then-not-branch-2-clause-reads
returns-then-not-branch-2-clause-reads c = told_read_stop _ _ _ _ _ _ _ _ _ _ _ _ _ _ c.loop-t-test.true c.t-item.is c.in_ok-read_case-2.ensures.reads c.if-not-branch-2.true c.loop-t.invariant

pub returns-clause-reads : goal.returns-clause-reads
returns-clause-reads c = told_read_end _ _ _ _ _ _ _ _ _ _ c.loop-t-test.false c.loop-t.invariant
