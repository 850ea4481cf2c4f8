use Rattle.std.proofs.Common.{◌≡◌, map, take}
use Rattle.mz_items.specs.StructureRows.{selected}
use Rattle.mz_types.proofs.structure_types.all_selected.Given as goal

abbrev pub invariant-loop-f : goal.invariant-loop-f
invariant-loop-f l = l.out ≡ map (selected l.t) (take l.f-index l.fields)
