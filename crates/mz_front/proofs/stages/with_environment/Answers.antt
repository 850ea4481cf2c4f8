use Rattle.mz_front.proofs.StageLemmas.{no_environment_found_at}
use Rattle.mz_front.proofs.stages.with_environment.Goals as goal

pub returns-in-Err : goal.returns-in-Err
returns-in-Err c = no_environment_found_at _ _ _ _ _ _ _ c.requires.read c.requires.has c.in-Err.ensures (let view = c.head.view_is in cc)
