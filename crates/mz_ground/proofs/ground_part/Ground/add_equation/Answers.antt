use Rattle.std.proofs.Common.{refl}
use Rattle.mz_ground.proofs.ExpressionLemmas.{told_equation_left, told_equation_right, told_equation_some}
use Rattle.mz_ground.proofs.ground_part.Ground.add_equation.Goals as goal

pub returns-in_ok-place-in-Some-Some : goal.returns-in_ok-place-in-Some-Some
returns-in_ok-place-in-Some-Some c = told_equation_some _ _ _ _ _ _ _ _ _ _ _ c.in-Some-Some.is-0 c.in-Some-Some.is-1 c.in_ok-left.ensures c.in_ok-right.ensures c.in_ok-place-in-Some-Some.ensures refl refl

pub returns-in_default : goal.returns-in_default
returns-in_default c = told_equation_right _ _ _ _ _ _ _ _ c.in_default.is-1 c.in_ok-left.ensures c.in_ok-right.ensures refl refl refl

pub returns-in_default-2 : goal.returns-in_default-2
returns-in_default-2 c = told_equation_left _ _ _ _ _ _ _ _ c.in_default.is-0 c.in_ok-left.ensures c.in_ok-right.ensures refl refl refl
