use Rattle.std.proofs.Common.{◌≡◌, take, flat_map}
use Rattle.mz_match.specs.Matches.{bind}
use Rattle.mz_match.proofs.match_terms.bind_each.Given as goal

abbrev pub invariant-loop-e : goal.invariant-loop-e
invariant-loop-e l = l.out ≡ flat_map (bind l.i l.v) (take l.e-index l.e-items)
