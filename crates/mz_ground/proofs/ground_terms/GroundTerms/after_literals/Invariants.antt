use Rattle.std.proofs.Common.{map, take, Some}
use Rattle.mz_ground.specs.Instance.{literal_at, literals_nodes}
use Rattle.mz_ground.specs.Ground.{term_at}
use Rattle.mz_ground.specs.Nodes.{IsSpent}
use Rattle.mz_ground.specs.Table.{entry_terms}
use Rattle.mz_ground.proofs.ground_terms.GroundTerms.after_literals.Given as goal

abbrev pub invariant-loop-item : goal.invariant-loop-item
invariant-loop-item l = IsSpent l.left (literals_nodes (map (literal_at (map (term_at (entry_terms l.self)) l.args)) (take l.item-index l.item-items))) (Some l.rest)
