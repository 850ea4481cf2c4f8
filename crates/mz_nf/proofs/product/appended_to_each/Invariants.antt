use Rattle.std.proofs.Common.{◌≡◌, map}
use Rattle.mz_nf.specs.Disjunct.{joined}
use Rattle.mz_nf.proofs.product.appended_to_each.Given as goal

abbrev pub invariant-loop-d : goal.invariant-loop-d
invariant-loop-d l = l.out ≡ map (λ d. joined d l.e) l.yielded
