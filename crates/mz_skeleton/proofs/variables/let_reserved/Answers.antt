use Rattle.mz_skeleton.proofs.LetLemmas.{told_reserved}
use Rattle.mz_skeleton.proofs.variables.let_reserved.Goals as goal

pub returns-in-Ok : goal.returns-in-Ok
returns-in-Ok c = told_reserved _ _ _ _ _ _ _ _ _ _ c.in_ok-v.ensures c.in-Ok.is c.perform_alone.ensures
