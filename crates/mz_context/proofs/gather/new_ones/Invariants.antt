use Rattle.std.proofs.Common.{◌≡◌}
use Rattle.mz_context.specs.Gather.{below, is_new}
use Rattle.mz_context.proofs.gather.new_ones.Given as goal

abbrev pub invariant-loop-c : goal.invariant-loop-c
invariant-loop-c l = l.out.items ≡ below (is_new l.constants l.met l.last) l.c
