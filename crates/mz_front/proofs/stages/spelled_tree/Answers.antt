use Rattle.mz_front.proofs.StageLemmas.{tree_answered}
use Rattle.mz_front.proofs.stages.spelled_tree.Goals as goal

pub returns-in-Err : goal.returns-in-Err
returns-in-Err c = tree_answered c.args.tokens.now c.in-Err.refusal _ _ c.in-Err.ensures c.parse_told.ensures c.answered.ensures
