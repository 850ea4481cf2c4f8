use Rattle.mz_congruence.proofs.PlaceLemmas.{candidate_place}
use Rattle.mz_congruence.proofs.rules_of.push_clause.Goals as goal

pub push_places-requires-clause-within : goal.push_places-requires-clause-within
push_places-requires-clause-within c = candidate_place _ c.args.places.now c.args.c.now _ c.requires.places c.candidates.ensures
