use Rattle.mz_performing.proofs.PrivateLemmas.{told_functor_unread, told_functor_defined}
use Rattle.mz_performing.proofs.private.define_functor.Goals as goal

pub returns-in_ok-put_functor-in-Ok : goal.returns-in_ok-put_functor-in-Ok
returns-in_ok-put_functor-in-Ok c = told_functor_defined _ _ _ _ _ _ _ _ _ _ c.read_functor.ensures.reads c.in-Ok.is c.read_functor.ensures.same c.in_ok-put_functor-in-Ok.ensures

pub returns-in-Err : goal.returns-in-Err
returns-in-Err c = told_functor_unread _ _ _ _ _ _ _ _ _ _ _ c.read_functor.ensures.reads c.in-Err.is c.resolved.ensures
