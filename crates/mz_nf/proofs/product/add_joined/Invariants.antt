use Rattle.std.proofs.Common.{◌≡◌, ◌++◌, take, map}
use Rattle.mz_nf.specs.Disjunct.{joined}
use Rattle.mz_nf.proofs.product.add_joined.Given as goal

abbrev pub invariant-loop-e : goal.invariant-loop-e
invariant-loop-e l = l.out ≡ l.initial.out ++ map (joined l.d) (take l.e-index l.e-items)
