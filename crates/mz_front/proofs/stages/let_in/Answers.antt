use Rattle.mz_front.proofs.StageLemmas.{environment_answered}
use Rattle.mz_front.proofs.stages.let_in.Goals as goal

pub returns-in-Err : goal.returns-in-Err
returns-in-Err c = environment_answered c.args.exports.now c.args.head.now c.in-Err.refusal _ _ c.in-Err.ensures c.env_told.ensures c.answered.ensures
