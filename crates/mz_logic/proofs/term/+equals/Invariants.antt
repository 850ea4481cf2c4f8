use Rattle.std.proofs.Common.{◌≡◌, take}
use Rattle.mz_logic.proofs.term.+equals.Given as goal

abbrev pub invariant-Terms::equals-loop-i : goal.invariant-Terms::equals-loop-i
invariant-Terms::equals-loop-i l = take l.i l.self-inside.items.items ≡ take l.i l.other-inside.items.items
