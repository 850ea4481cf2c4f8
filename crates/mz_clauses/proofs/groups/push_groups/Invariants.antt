use Rattle.std.proofs.Common.{◌≡◌, ◌++◌}
use Rattle.mz_clauses.proofs.groups.push_groups.Given as goal

abbrev pub invariant-loop-g : goal.invariant-loop-g
invariant-loop-g l = l.out ≡ l.initial.out ++ l.yielded
