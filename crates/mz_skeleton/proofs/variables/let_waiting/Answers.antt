use Rattle.mz_skeleton.proofs.LetLemmas.{told_words_turn, told_words_stop}
use Rattle.mz_skeleton.proofs.variables.let_waiting.Goals as goal

pub loop-w-preserved : goal.loop-w-preserved
loop-w-preserved c = told_words_turn _ _ _ _ _ _ _ _ _ _ _ _ _ _ c.in-Some.ensures.cases.0 c.let_reserved.ensures c.in-Ok.is c.loop-w.invariant

pub returns-in-Err : goal.returns-in-Err
returns-in-Err c = told_words_stop _ _ _ _ _ _ _ _ _ _ _ _ _ _ _ c.in-Some.ensures.cases.0 c.let_reserved.ensures c.in-Err.is c.loop-w.invariant
