use Rattle.mz_skeleton.proofs.AssumeLemmas.{told_first_taken, told_first_refused}
use Rattle.mz_skeleton.proofs.hypotheses.assume_all.Goals as goal

pub returns-in-Ok : goal.returns-in-Ok
returns-in-Ok c = told_first_taken _ _ _ _ _ _ _ _ _ _ _ c.trees.view_is c.assume_one.ensures c.in-Ok.is c.as_slice.ensures.value c.assume_each.ensures

pub returns-in-Err : goal.returns-in-Err
returns-in-Err c = told_first_refused _ _ _ _ _ _ _ _ _ _ c.trees.view_is c.assume_one.ensures c.in-Err.is
