use Rattle.std.proofs.Common.{◌≡◌, take, map}
use Rattle.mz_logic.specs.Substitution.{substitute, value_at}
use Rattle.mz_ground.specs.Ground.{term_at}
use Rattle.mz_ground.specs.Table.{entry_terms}
use Rattle.mz_ground.proofs.ground_terms.GroundTerms.+instance.Given as goal

abbrev pub invariant-are_instances_at-loop-i : goal.invariant-are_instances_at-loop-i
invariant-are_instances_at-loop-i l = map (substitute 0 (value_at (map (term_at (entry_terms l.self)) l.args))) (take l.i l.us-inside.items.items) ≡ map (term_at (entry_terms l.self)) (take l.i l.places)
