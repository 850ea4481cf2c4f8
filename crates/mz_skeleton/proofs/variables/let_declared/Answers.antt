use Rattle.mz_skeleton.proofs.LetLemmas.{told_declared, told_undeclared}
use Rattle.mz_skeleton.proofs.variables.let_declared.Goals as goal

pub returns-in_ok-steps-in-Ok : goal.returns-in_ok-steps-in-Ok
returns-in_ok-steps-in-Ok c = told_declared _ _ _ _ _ _ _ _ _ _ _ _ _ _ _ _ c.declare.ensures.declares c.in-Ok.is c.declare.ensures.same c.in_ok-steps-in-Ok.ensures c.perform_all.ensures

pub returns-in-Err : goal.returns-in-Err
returns-in-Err c = told_undeclared _ _ _ _ _ _ _ _ _ _ _ _ _ _ c.declare.ensures.declares c.in-Err.is c.resolved.ensures
