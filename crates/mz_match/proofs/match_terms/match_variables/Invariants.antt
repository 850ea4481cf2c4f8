use Rattle.std.proofs.Common.{◌≡◌, take, flat_map}
use Rattle.mz_logic.specs.Term.{Bound}
use Rattle.mz_match.specs.Matches.{match_term}
use Rattle.mz_match.proofs.match_terms.match_variables.Given as goal

abbrev pub invariant-loop-v : goal.invariant-loop-v
invariant-loop-v l = l.out ≡ flat_map (λ v. match_term l.table 0 (Bound l.j) v (match_term l.table 0 (Bound l.i) v l.es)) (take l.v-index l.values)
