use Rattle.mz_performing.proofs.PerformLemmas.{told_all_turn, told_all_stop}
use Rattle.mz_performing.proofs.perform.perform_all.Goals as goal

pub loop-step-preserved : goal.loop-step-preserved
loop-step-preserved c = told_all_turn _ _ _ _ _ _ _ _ _ _ _ _ _ _ c.in-Some.ensures.cases.0 c.perform_alone.ensures c.in-Ok.is c.loop-step.invariant

pub returns-in-Err : goal.returns-in-Err
returns-in-Err c = told_all_stop _ _ _ _ _ _ _ _ _ _ _ _ _ _ _ c.in-Some.ensures.cases.0 c.perform_alone.ensures c.in-Err.is c.loop-step.invariant
