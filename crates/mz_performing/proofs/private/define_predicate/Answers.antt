use Rattle.mz_performing.proofs.PrivateLemmas.{told_predicate_unread, told_predicate_defined}
use Rattle.mz_performing.proofs.private.define_predicate.Goals as goal

pub returns-in_ok-put_predicate-in-Ok : goal.returns-in_ok-put_predicate-in-Ok
returns-in_ok-put_predicate-in-Ok c = told_predicate_defined _ _ _ _ _ _ _ _ _ _ c.read_predicate.ensures.reads c.in-Ok.is c.read_predicate.ensures.same c.in_ok-put_predicate-in-Ok.ensures

pub returns-in-Err : goal.returns-in-Err
returns-in-Err c = told_predicate_unread _ _ _ _ _ _ _ _ _ _ _ c.read_predicate.ensures.reads c.in-Err.is c.resolved.ensures
