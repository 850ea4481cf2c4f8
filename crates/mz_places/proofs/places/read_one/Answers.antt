use Rattle.mz_places.proofs.PlaceLemmas.{told_one}
use Rattle.mz_places.proofs.places.read_one.Goals as goal

pub returns-in_ok-push-in-Ok-clause-reads : goal.returns-in_ok-push-in-Ok-clause-reads
returns-in_ok-push-in-Ok-clause-reads c = told_one _ _ _ _ _ _ _ _ _ _ c.type_of.ensures.reads c.in-Ok.is c.in_ok-push-in-Ok.ensures.ok
