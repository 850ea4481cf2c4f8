use Rattle.std.proofs.Common.{◌≡◌}
use Rattle.mz_environment.proofs.notation_table.notation_table.Given as goal

abbrev pub invariant-loop-x : goal.invariant-loop-x
invariant-loop-x l = l.out ≡ l.yielded
