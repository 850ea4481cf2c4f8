use Rattle.mz_private.proofs.PrivateLemmas.{told_no_functor_body, told_functor}
use Rattle.mz_private.proofs.private.read_functor.Goals as goal

pub returns-in_ok-f-in-Ok-term_inside-clause-reads : goal.returns-in_ok-f-in-Ok-term_inside-clause-reads
returns-in_ok-f-in-Ok-term_inside-clause-reads c = told_functor _ _ _ _ _ _ _ _ _ _ _ _ _ _ c.read_places.ensures.reads c.in-Ok.is c.read_places.ensures.same c.in_ok-first.ensures c.term_inside.ensures.reads c.in-Ok-term_inside.is c.in_ok-f-in-Ok-term_inside.ensures

pub returns-in-Err-term_inside-clause-reads : goal.returns-in-Err-term_inside-clause-reads
returns-in-Err-term_inside-clause-reads c = told_no_functor_body _ _ _ _ _ _ _ _ _ _ _ _ c.read_places.ensures.reads c.in-Ok.is c.read_places.ensures.same c.term_inside.ensures.reads c.in-Err-term_inside.is
