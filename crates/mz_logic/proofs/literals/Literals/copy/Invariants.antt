use Rattle.std.proofs.Common.{◌≡◌, take}
use Rattle.mz_logic.proofs.literals.Literals.copy.Given as goal

abbrev pub invariant-loop-l : goal.invariant-loop-l
invariant-loop-l l = l.out.items ≡ take l.l-index l.l-items
