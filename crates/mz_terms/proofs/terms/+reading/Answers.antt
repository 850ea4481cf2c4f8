use Rattle.std.proofs.Common.{arith}
use Rattle.mz_terms.proofs.TermLemmas.{told_stops, told_goes_on, told_one_refused, told_one_read, told_no_more}
use Rattle.mz_terms.proofs.terms.+reading.Goals as goal

pub read_run-returns-in-Err : goal.read_run-returns-in-Err
read_run-returns-in-Err t c = told_stops _ _ _ _ _ _ _ _ _ _ _ _ c.in-Some.ensures.cases.0 c.in_ok-r.ensures c.in-Err.is c.loop-step.invariant

pub read_run-loop-step-preserved : goal.read_run-loop-step-preserved
read_run-loop-step-preserved t c = told_goes_on _ _ _ _ _ _ _ _ _ _ _ _ c.in-Some.ensures.cases.0 c.in_ok-r.ensures c.in-Ok.is c.loop-step.invariant

pub read_terms-returns-in-Err-2 : goal.read_terms-returns-in-Err-2
read_terms-returns-in-Err-2 t c = told_one_refused _ _ _ _ _ _ _ c.args.node.now _ _ c.loop-next-test.true c.next-item.is c.in_ok-r-2.ensures c.in-Err-2.is c.loop-next.invariant

pub read_terms-loop-next-preserved : goal.read_terms-loop-next-preserved
read_terms-loop-next-preserved t c = told_one_read _ _ _ _ _ _ _ _ c.args.node.now _ _ c.loop-next-test.true c.next-item.is c.in_ok-r-2.ensures c.in-Ok-2.is c.in_ok-push-in-Ok-2.ensures.ok c.loop-next.invariant

pub read_terms-returns : goal.read_terms-returns
read_terms-returns t c = told_no_more _ _ _ c.deref-next-items.result.now c.loop-next.next-index _ c.args.node.now (omega (arith, c.loop-next-test.false)) c.loop-next.invariant
