use Rattle.std.proofs.Common.{◌≡◌, map, take}
use Rattle.mz_search.specs.Kept.{place_kept}
use Rattle.mz_search.proofs.kept.goal_kept.Given as goal

abbrev pub invariant-loop-place : goal.invariant-loop-place
invariant-loop-place l = l.flags.items ≡ map (place_kept l.e l.marks l.inside) (take l.place-index l.place-items)
