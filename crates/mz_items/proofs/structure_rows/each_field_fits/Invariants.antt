use Rattle.std.proofs.Common.{◌≡◌, map, take}
use Rattle.mz_items.specs.StructureRows.{field_fits}
use Rattle.mz_items.proofs.structure_rows.each_field_fits.Given as goal

abbrev pub invariant-loop-x : goal.invariant-loop-x
invariant-loop-x l = l.out.items ≡ map (field_fits l.values) (take l.x-index l.x-items)
