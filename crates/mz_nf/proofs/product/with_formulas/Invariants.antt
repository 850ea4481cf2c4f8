use Rattle.std.proofs.Common.{◌≡◌, ◌++◌, take}
use Rattle.mz_nf.proofs.product.with_formulas.Given as goal

abbrev pub invariant-loop-g : goal.invariant-loop-g
invariant-loop-g l = l.out ≡ l.fn.fs ++ take l.g-index l.g-items
