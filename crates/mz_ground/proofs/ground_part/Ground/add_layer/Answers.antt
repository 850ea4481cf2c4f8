use Rattle.mz_ground.proofs.LayerLemmas.{told_layer}
use Rattle.mz_ground.proofs.ground_part.Ground.add_layer.Goals as goal

pub returns : goal.returns
returns c = (c.end-end.ensures, told_layer _ _ _ _ _ c.in_ok-places.places c.end-end.ensures c.in_ok-places.ensures.ends c.in_ok-add_clauses.ensures)
