use Rattle.std.proofs.Common.{◌≡◌, map, take}
use Rattle.mz_match.specs.Slots.{slot_at}
use Rattle.mz_match.proofs.assignment.Assignment.at_places.Given as goal

abbrev pub invariant-loop-place : goal.invariant-loop-place
invariant-loop-place l = l.slots.items ≡ map (slot_at l.self) (take l.place-index l.scope)
