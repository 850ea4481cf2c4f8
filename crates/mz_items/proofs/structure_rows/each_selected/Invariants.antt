use Rattle.std.proofs.Common.{◌≡◌, map, take}
use Rattle.mz_items.specs.StructureRows.{selected}
use Rattle.mz_items.proofs.structure_rows.each_selected.Given as goal

abbrev pub invariant-loop-x : goal.invariant-loop-x
invariant-loop-x l = l.out.items ≡ map (selected l.t) (take l.x-index l.x-items)
