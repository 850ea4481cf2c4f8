use Rattle.mz_front.proofs.StageLemmas.{table_answered}
use Rattle.mz_front.proofs.stages.named_symbols.Goals as goal

pub returns-in-Err : goal.returns-in-Err
returns-in-Err c = table_answered c.args.vocabularies.now c.args.head.now c.in-Err.refusal _ _ c.in-Err.ensures.refused c.table_told.ensures c.answered.ensures
