use Rattle.std.proofs.Common.{◌≡◌}
use Rattle.mz_items.specs.PropertyRows.{locus_values}
use Rattle.mz_items.proofs.property_rows.locus_values.Given as goal

abbrev pub invariant-loop-k : goal.invariant-loop-k
invariant-loop-k l = l.out ≡ locus_values l.by l.v.left l.v.t.now l.v.right l.v.u.now l.k
