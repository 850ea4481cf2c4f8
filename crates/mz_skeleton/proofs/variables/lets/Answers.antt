use Rattle.mz_skeleton.proofs.LetLemmas.{told_let, told_not_let}
use Rattle.mz_skeleton.proofs.variables.lets.Goals as goal

pub returns-in-Ok : goal.returns-in-Ok
returns-in-Ok c = told_let _ _ _ _ _ _ _ _ _ _ _ c.node.result.now _ _ _ _ c.node.ensures c.new-waiting.ensures.items c.let_all.ensures c.in-Ok.is c.as_slice.ensures.value c.let_waiting.ensures

pub returns : goal.returns
returns c = told_not_let _ _ _ _ _ _ _ c.node.result.now _ _ _ c.node.ensures c.new-waiting.ensures.items c.let_all.ensures c.in-Err.is
