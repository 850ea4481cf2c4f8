use Rattle.std.proofs.Common.{◌≡◌, ◌++◌, take}
use Rattle.mz_nf.proofs.product.with_literals.Given as goal

abbrev pub invariant-loop-m : goal.invariant-loop-m
invariant-loop-m l = l.out ≡ l.fn.ls ++ take l.m-index l.m-items
