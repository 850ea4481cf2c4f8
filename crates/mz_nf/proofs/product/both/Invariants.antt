use Rattle.std.proofs.Common.{◌≡◌, ◌++◌, take}
use Rattle.mz_nf.proofs.product.both.Given as goal

abbrev pub invariant-loop-e : goal.invariant-loop-e
invariant-loop-e l = l.out ≡ l.fn.ds ++ take l.e-index l.e-items
