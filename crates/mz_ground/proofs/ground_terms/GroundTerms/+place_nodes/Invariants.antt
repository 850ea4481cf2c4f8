use Rattle.std.proofs.Common.{◌+◌, ◌*◌, map, take, Some}
use Rattle.mz_logic.specs.Term.{terms_of}
use Rattle.mz_ground.specs.Instance.{args_nodes}
use Rattle.mz_ground.specs.Ground.{term_at}
use Rattle.mz_ground.specs.Nodes.{IsSpent}
use Rattle.mz_ground.specs.Table.{entry_terms}
use Rattle.mz_ground.proofs.ground_terms.GroundTerms.+place_nodes.Given as goal

abbrev pub decreases-after_place : goal.decreases-after_place
decreases-after_place l = 2 * l.place + 1

abbrev pub decreases-after_places : goal.decreases-after_places
decreases-after_places l = 2 * l.bound

abbrev pub invariant-after_places-loop-place : goal.invariant-after_places-loop-place
invariant-after_places-loop-place l = IsSpent l.left (args_nodes (terms_of (map (term_at (entry_terms l.self)) (take l.place-index l.places)))) (Some l.rest)
