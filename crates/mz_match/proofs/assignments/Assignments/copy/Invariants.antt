use Rattle.std.proofs.Common.{◌≡◌, take}
use Rattle.mz_match.proofs.assignments.Assignments.copy.Given as goal

abbrev pub invariant-loop-e : goal.invariant-loop-e
invariant-loop-e l = l.out ≡ take l.e-index l.e-items
