use Rattle.std.proofs.Common.{◌≡◌}
use Rattle.mz_structure.specs.Fields.{loci_in_order}
use Rattle.mz_structs.proofs.heading.loci_in_order.Given as goal

abbrev pub invariant-loop-k : goal.invariant-loop-k
invariant-loop-k l = l.out ≡ loci_in_order l.least l.k
