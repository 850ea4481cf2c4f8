use Rattle.mz_places.proofs.PlaceLemmas.{told_all_refused, told_all_read}
use Rattle.mz_places.proofs.places.read_all.Goals as goal

pub returns-in-Ok-clause-reads : goal.returns-in-Ok-clause-reads
returns-in-Ok-clause-reads c = told_all_read _ _ _ _ _ _ _ _ _ _ _ _ _ _ _ _ c.trees.view_is c.read_one.ensures.reads c.in-Ok.is c.read_one.ensures.same c.as_slice.ensures.value c.read_each.ensures.reads

pub returns-in-Err-clause-reads : goal.returns-in-Err-clause-reads
returns-in-Err-clause-reads c = told_all_refused _ _ _ _ _ _ _ _ _ _ _ _ c.trees.view_is c.read_one.ensures.reads c.in-Err.is
