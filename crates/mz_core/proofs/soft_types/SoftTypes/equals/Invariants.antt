use Rattle.std.proofs.Common.{◌≡◌, take}
use Rattle.mz_core.proofs.soft_types.SoftTypes.equals.Given as goal

abbrev pub invariant-loop-i : goal.invariant-loop-i
invariant-loop-i l = take l.i l.self-inside.items.items ≡ take l.i l.other-inside.items.items
