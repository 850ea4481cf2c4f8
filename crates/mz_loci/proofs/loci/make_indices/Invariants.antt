use Rattle.std.proofs.Common.{◌≡◌}
use Rattle.mz_loci.specs.Loci.{type_over_loci}
use Rattle.mz_loci.proofs.loci.make_indices.Given as goal

abbrev pub invariant-loop-k : goal.invariant-loop-k
invariant-loop-k l = l.ty ≡ type_over_loci l.least l.k l.initial.ty
