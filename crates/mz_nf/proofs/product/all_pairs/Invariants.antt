use Rattle.std.proofs.Common.{◌≡◌, take}
use Rattle.mz_nf.specs.Disjunct.{pairs}
use Rattle.mz_nf.proofs.product.all_pairs.Given as goal

abbrev pub invariant-loop-d : goal.invariant-loop-d
invariant-loop-d l = l.out ≡ pairs (take l.d-index l.d-items) l.es
