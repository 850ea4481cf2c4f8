use Rattle.std.proofs.Common.{◌≡◌, take, flat_map}
use Rattle.mz_match.specs.Matches.{match_none, match_term}
use Rattle.mz_match.proofs.match_terms.match_constant_class.Given as goal

abbrev pub invariant-loop-r : goal.invariant-loop-r
invariant-loop-r l = l.out ≡ flat_map (λ r. match_term l.table l.depth l.t r.value (match_none r.args.items l.es)) (take l.r-index l.r-items)
