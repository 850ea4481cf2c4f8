use Rattle.std.proofs.Common.{◌≡◌, map, take}
use Rattle.mz_structure_items.specs.Aggregates.{index_at}
use Rattle.mz_structure_items.proofs.aggregates.indices_at.Given as goal

abbrev pub invariant-loop-place : goal.invariant-loop-place
invariant-loop-place l = l.out.items ≡ map (index_at l.all) (take l.place-index l.places)
