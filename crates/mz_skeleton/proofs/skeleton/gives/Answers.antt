use Rattle.mz_performing.proofs.SkeletonLemmas.{told_given, told_not_given}
use Rattle.mz_skeleton.proofs.skeleton.gives.Goals as goal

pub returns-in-Ok : goal.returns-in-Ok
returns-in-Ok c = told_given _ _ _ _ _ _ _ _ _ _ _ _ _ c.describe.ensures.reads c.in-Ok.is c.describe.ensures.same c.give.ensures

pub returns-in-Err : goal.returns-in-Err
returns-in-Err c = told_not_given _ _ _ _ _ _ _ _ _ _ _ _ c.describe.ensures.reads c.in-Err.is c.resolved.ensures
