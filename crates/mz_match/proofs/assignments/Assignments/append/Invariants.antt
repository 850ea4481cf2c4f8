use Rattle.std.proofs.Common.{◌≡◌, ◌++◌}
use Rattle.mz_match.proofs.assignments.Assignments.append.Given as goal

abbrev pub invariant-loop-e : goal.invariant-loop-e
invariant-loop-e l = l.self-inside.items.items ≡ l.initial.self-inside.items.items ++ l.yielded
