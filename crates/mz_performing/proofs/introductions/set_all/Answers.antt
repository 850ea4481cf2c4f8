use Rattle.mz_performing.proofs.SetLemmas.{told_all_taken, told_all_refused}
use Rattle.mz_performing.proofs.introductions.set_all.Goals as goal

pub returns-in-Ok : goal.returns-in-Ok
returns-in-Ok c = told_all_taken _ _ _ _ _ _ _ _ _ _ _ c.trees.view_is c.set_one.ensures c.in-Ok.is c.as_slice.ensures.value c.set_each.ensures

pub returns-in-Err : goal.returns-in-Err
returns-in-Err c = told_all_refused _ _ _ _ _ _ _ _ _ _ c.trees.view_is c.set_one.ensures c.in-Err.is
