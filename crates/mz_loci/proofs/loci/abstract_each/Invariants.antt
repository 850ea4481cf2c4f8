use Rattle.std.proofs.Common.{◌≡◌}
use Rattle.mz_loci.specs.Loci.{statement_over_loci}
use Rattle.mz_loci.proofs.loci.abstract_each.Given as goal

abbrev pub invariant-loop-k : goal.invariant-loop-k
invariant-loop-k l = l.s ≡ statement_over_loci l.least l.k l.initial.s
