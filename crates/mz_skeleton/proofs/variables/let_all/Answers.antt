use Rattle.mz_skeleton.proofs.LetLemmas.{told_first_taken, told_first_refused}
use Rattle.mz_skeleton.proofs.variables.let_all.Goals as goal

pub returns-in-Ok : goal.returns-in-Ok
returns-in-Ok c = told_first_taken _ _ _ _ _ _ _ _ _ _ _ c.let_declared.ensures c.in-Ok.is c.as_slice.ensures.value c.let_each.ensures

pub returns-in-Err : goal.returns-in-Err
returns-in-Err c = told_first_refused _ _ _ _ _ _ _ _ _ _ c.let_declared.ensures c.in-Err.is
