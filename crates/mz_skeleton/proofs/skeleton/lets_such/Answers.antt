use Rattle.mz_performing.proofs.SkeletonLemmas.{told_let_such, told_not_let}
use Rattle.mz_skeleton.proofs.skeleton.lets_such.Goals as goal

pub returns-in-Ok : goal.returns-in-Ok
returns-in-Ok c = told_let_such _ _ _ _ _ _ _ _ _ c.lets.ensures c.in-Ok.is c.assume_conditions.ensures

pub returns-in-Err : goal.returns-in-Err
returns-in-Err c = told_not_let _ _ _ _ _ _ _ _ _ c.lets.ensures c.in-Err.is
