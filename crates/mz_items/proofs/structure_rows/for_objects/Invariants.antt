use Rattle.std.proofs.Common.{◌≡◌}
use Rattle.mz_items.specs.StructureRows.{for_objects}
use Rattle.mz_items.proofs.structure_rows.for_objects.Given as goal

abbrev pub invariant-loop-k : goal.invariant-loop-k
invariant-loop-k l = l.out ≡ for_objects l.k l.fn.f
