use Rattle.mz_ground.proofs.InstanceLemmas.{told_clause}
use Rattle.mz_ground.proofs.ground_part.Ground.add_clause.Goals as goal

pub returns : goal.returns
returns c = told_clause _ _ _ c.args.places.now _ c.candidates.ensures c.requires.numbered c.requires.end c.requires.places c.in_ok-add_at.ensures
