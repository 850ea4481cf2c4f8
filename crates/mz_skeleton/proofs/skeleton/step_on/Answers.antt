use Rattle.mz_performing.proofs.SkeletonLemmas.{told_lets, told_assumes, told_gives, told_takes}
use Rattle.mz_skeleton.proofs.skeleton.step_on.Goals as goal

pub returns-in-Let : goal.returns-in-Let
returns-in-Let c = told_lets _ _ _ _ _ _ _ c.in-Let.is c.lets_such.ensures

pub returns-in-Assume : goal.returns-in-Assume
returns-in-Assume c = told_assumes _ _ _ _ _ _ _ c.in-Assume.is c.assumes.ensures

pub returns-in-Given : goal.returns-in-Given
returns-in-Given c = told_gives _ _ _ _ _ _ _ c.in-Given.is c.gives.ensures

pub returns-else-is_now : goal.returns-else-is_now
returns-else-is_now c = told_takes _ _ _ _ _ _ _ _ c.in-Take.is c.is_now.ensures c.if-is_now.false c.take_all.ensures
