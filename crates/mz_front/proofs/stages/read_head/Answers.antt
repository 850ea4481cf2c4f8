use Rattle.mz_front.proofs.StageLemmas.{head_answered}
use Rattle.mz_front.proofs.stages.read_head.Goals as goal

pub returns-in-Err : goal.returns-in-Err
returns-in-Err c = head_answered c.args.bytes.now c.in-Err.refusal _ _ c.in-Err.ensures.refused c.head_told.ensures c.answered.ensures
