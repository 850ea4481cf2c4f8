use Rattle.mz_performing.proofs.ReconsiderLemmas.{told_reconsidered, told_unread}
use Rattle.mz_performing.proofs.introductions.reconsiders.Goals as goal

pub returns-in-Ok : goal.returns-in-Ok
returns-in-Ok c = told_reconsidered _ _ _ _ _ _ _ _ _ _ _ _ _ _ _ _ _ c.is_some.ensures c.is_linked.ensures c.if-not-is_linked.false c.read_reconsidered.ensures.reads c.in-Ok.is c.read_reconsidered.ensures.same c.reconsider.ensures

pub returns-in-Err : goal.returns-in-Err
returns-in-Err c = told_unread _ _ _ _ _ _ _ _ _ _ _ _ _ _ _ _ _ c.is_some.ensures c.is_linked.ensures c.if-not-is_linked.false c.read_reconsidered.ensures.reads c.in-Err.is c.resolved.ensures
