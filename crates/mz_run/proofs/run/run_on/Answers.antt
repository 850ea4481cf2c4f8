use Rattle.mz_words.specs.Words.{asked_by}
use Rattle.mz_run.proofs.RunLemmas.{ended_on}
use Rattle.mz_run.proofs.run.run_on.Goals as goal

pub returns-in-Ok-clause-ended : goal.returns-in-Ok-clause-ended
returns-in-Ok-clause-ended g c = ended_on _ (asked_by c.args.order.now) _ _ _ _ _ _ c.in-Ok.ensures c.write_finished.ensures.ended
