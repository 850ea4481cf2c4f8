use Rattle.std.proofs.Common.{◌<◌, ℕ, None, get_or}
use Rattle.mz_logic.specs.Term.{Term}
use Rattle.mz_ground.specs.Matches.{IsTermValue}
use Rattle.mz_ground.proofs.ground_terms.GroundTerms.+value.Given as goal

abbrev pub invariant-value_among-loop-i : goal.invariant-value_among-loop-i
invariant-value_among-loop-i l = (j : ℕ) (u : Term) → j < l.i → IsTermValue l.self l.index (get_or l.us-inside.items.items j u) (get_or l.places j 0) None
