use Rattle.std.proofs.Common.{◌≡◌, take}
use Rattle.mz_logic.proofs.sequents.Sequents.copy.Given as goal

abbrev pub invariant-loop-s : goal.invariant-loop-s
invariant-loop-s l = l.out.items ≡ take l.s-index l.s-items
