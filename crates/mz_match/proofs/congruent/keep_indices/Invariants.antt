use Rattle.std.proofs.Common.{◌≡◌, take, flat_map}
use Rattle.mz_match.specs.Matches.{keep_index}
use Rattle.mz_match.proofs.congruent.keep_indices.Given as goal

abbrev pub invariant-loop-e : goal.invariant-loop-e
invariant-loop-e l = l.out ≡ flat_map (keep_index l.depth l.i l.j) (take l.e-index l.e-items)
