use Rattle.std.proofs.Common.{◌≡◌, take}
use Rattle.mz_logic.proofs.disjuncts.Disjuncts.copy.Given as goal

abbrev pub invariant-loop-d : goal.invariant-loop-d
invariant-loop-d l = l.out.items ≡ take l.d-index l.d-items
