use Rattle.std.proofs.Common.{map, take, Some}
use Rattle.mz_logic.specs.Term.{terms_of}
use Rattle.mz_logic.specs.Substitution.{substitute, value_at}
use Rattle.mz_ground.specs.Instance.{args_nodes}
use Rattle.mz_ground.specs.Ground.{term_at}
use Rattle.mz_ground.specs.Nodes.{IsSpent}
use Rattle.mz_ground.specs.Table.{entry_terms}
use Rattle.mz_ground.proofs.ground_terms.GroundTerms.+nodes.Given as goal

abbrev pub invariant-after_terms-loop-u : goal.invariant-after_terms-loop-u
invariant-after_terms-loop-u l = IsSpent l.left (args_nodes (terms_of (map (substitute 0 (value_at (map (term_at (entry_terms l.self)) l.args))) (take l.u-index l.u-items)))) (Some l.rest)
