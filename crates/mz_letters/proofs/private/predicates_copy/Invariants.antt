use Rattle.std.proofs.Common.{◌≡◌, take}
use Rattle.mz_letters.proofs.private.predicates_copy.Given as goal

abbrev pub invariant-loop-p : goal.invariant-loop-p
invariant-loop-p l = l.out ≡ take l.p-index l.p-items
