use Rattle.std.proofs.Common.{◌≡◌, take}
use Rattle.mz_compare.proofs.lists.are_equal.Given as goal

abbrev pub invariant-loop-i : goal.invariant-loop-i
invariant-loop-i g l = take l.i l.fn.a ≡ take l.i l.fn.b
