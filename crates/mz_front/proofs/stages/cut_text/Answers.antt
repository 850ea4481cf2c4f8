use Rattle.mz_front.proofs.StageLemmas.{tokens_answered}
use Rattle.mz_front.proofs.stages.cut_text.Goals as goal

pub returns-in-Err : goal.returns-in-Err
returns-in-Err c = tokens_answered c.args.table.now c.args.bytes.now c.in-Err.refusal _ _ c.in-Err.ensures.stopped c.lex_told.ensures c.answered.ensures
