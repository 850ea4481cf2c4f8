use Rattle.std.proofs.Common.{◌≡◌, ◌++◌}
use Rattle.mz_context.proofs.gather.push_all.Given as goal

abbrev pub invariant-loop-literal : goal.invariant-loop-literal
invariant-loop-literal l = l.out ≡ l.initial.out ++ l.yielded
