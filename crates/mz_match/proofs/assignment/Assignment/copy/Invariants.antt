use Rattle.std.proofs.Common.{◌≡◌, take}
use Rattle.mz_match.proofs.assignment.Assignment.copy.Given as goal

abbrev pub invariant-loop-x : goal.invariant-loop-x
invariant-loop-x l = l.slots.items ≡ take l.x-index l.x-items
