use Rattle.std.proofs.Common.{◌≡◌, take}
use Rattle.mz_thesis.proofs.fresh.constants_copy.Given as goal

abbrev pub invariant-loop-k : goal.invariant-loop-k
invariant-loop-k l = l.out.items ≡ take l.k-index l.k-items
