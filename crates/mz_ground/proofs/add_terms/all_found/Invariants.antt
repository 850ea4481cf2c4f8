use Rattle.std.proofs.Common.{◌≡◌, take, map, Some}
use Rattle.mz_ground.proofs.add_terms.all_found.Given as goal

abbrev pub invariant-loop-item : goal.invariant-loop-item
invariant-loop-item l = take l.item-index l.found ≡ map Some l.places
