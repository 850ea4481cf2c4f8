use Rattle.std.proofs.Common.{◌≡◌, [], take, flat_map}
use Rattle.std.specs.Prelude.{if◌then◌else◌}
use Rattle.mz_match.specs.Rows.{has_value}
use Rattle.mz_match.specs.Matches.{match_none}
use Rattle.mz_match.proofs.match_terms.match_constant.Given as goal

abbrev pub invariant-loop-r : goal.invariant-loop-r
invariant-loop-r l = l.out ≡ flat_map (λ r. if has_value l.v r then match_none r.args.items l.es else []) (take l.r-index l.rows)
