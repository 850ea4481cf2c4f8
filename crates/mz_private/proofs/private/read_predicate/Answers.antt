use Rattle.mz_private.proofs.PrivateLemmas.{told_no_predicate_body, told_predicate}
use Rattle.mz_private.proofs.private.read_predicate.Goals as goal

pub returns-in_ok-p-in-Ok-formula_inside-clause-reads : goal.returns-in_ok-p-in-Ok-formula_inside-clause-reads
returns-in_ok-p-in-Ok-formula_inside-clause-reads c = told_predicate _ _ _ _ _ _ _ _ _ _ _ _ _ _ c.read_places.ensures.reads c.in-Ok.is c.read_places.ensures.same c.in_ok-first.ensures c.formula_inside.ensures.reads c.in-Ok-formula_inside.is c.in_ok-p-in-Ok-formula_inside.ensures

pub returns-in-Err-formula_inside-clause-reads : goal.returns-in-Err-formula_inside-clause-reads
returns-in-Err-formula_inside-clause-reads c = told_no_predicate_body _ _ _ _ _ _ _ _ _ _ _ _ c.read_places.ensures.reads c.in-Ok.is c.read_places.ensures.same c.formula_inside.ensures.reads c.in-Err-formula_inside.is
