use Rattle.std.proofs.Common.{◌≡◌}
use Rattle.mz_choice.specs.Cover.{over_constants}
use Rattle.mz_choice.proofs.cover.over_constants.Given as goal

abbrev pub invariant-loop-left : goal.invariant-loop-left
invariant-loop-left l = over_constants l.c l.left l.out ≡ over_constants l.fn.n l.fn.count l.fn.ts

abbrev pub decreases-loop-left : goal.decreases-loop-left
decreases-loop-left l = l.left
