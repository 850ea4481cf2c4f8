use Rattle.mz_ground.proofs.LayerLemmas.{told_base}
use Rattle.mz_ground.proofs.ground.base.Goals as goal

pub returns : goal.returns
returns c = told_base _ _ _ _ c.in_ok-g.ensures c.in_ok-add_literals.ensures c.in_ok-add_formulas.ensures
