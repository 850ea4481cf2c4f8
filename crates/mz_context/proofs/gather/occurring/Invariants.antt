use Rattle.std.proofs.Common.{◌≡◌}
use Rattle.mz_context.specs.Gather.{below, has_constant}
use Rattle.mz_context.proofs.gather.occurring.Given as goal

abbrev pub invariant-loop-c : goal.invariant-loop-c
invariant-loop-c l = l.out.items ≡ below (has_constant l.l) l.c
