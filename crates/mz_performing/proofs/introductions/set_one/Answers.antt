use Rattle.mz_performing.proofs.SetLemmas.{told_set, told_unread}
use Rattle.mz_performing.proofs.introductions.set_one.Goals as goal

pub returns-in-Ok : goal.returns-in-Ok
returns-in-Ok c = told_set _ _ _ _ _ _ _ _ _ _ _ _ c.read_named.ensures c.in-Ok.is c.perform_alone.ensures

pub returns-in-Err : goal.returns-in-Err
returns-in-Err c = told_unread _ _ _ _ _ _ _ _ _ _ _ _ c.read_named.ensures c.in-Err.is c.resolved.ensures
