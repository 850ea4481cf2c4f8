use Rattle.mz_skeleton.proofs.AssumeLemmas.{told_assumed, told_unread}
use Rattle.mz_skeleton.proofs.hypotheses.assume_one.Goals as goal

pub returns-in_ok-step-in-Ok : goal.returns-in_ok-step-in-Ok
returns-in_ok-step-in-Ok c = told_assumed _ _ _ _ _ _ _ _ _ _ _ _ _ _ _ _ c.sentence.ensures.reads c.in-Ok.is c.sentence.ensures.same c.in_ok-step-in-Ok.ensures.step c.in_ok-step-in-Ok.ensures.stated c.perform_alone.ensures

pub returns-in-Err : goal.returns-in-Err
returns-in-Err c = told_unread _ _ _ _ _ _ _ _ _ _ _ _ _ c.sentence.ensures.reads c.in-Err.is c.resolved.ensures
