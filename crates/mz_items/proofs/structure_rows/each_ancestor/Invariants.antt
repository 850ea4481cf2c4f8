use Rattle.std.proofs.Common.{◌≡◌, map, take}
use Rattle.mz_core.specs.TypeStatements.{is_of_type_inside}
use Rattle.mz_items.proofs.structure_rows.each_ancestor.Given as goal

abbrev pub invariant-loop-x : goal.invariant-loop-x
invariant-loop-x l = l.out.items ≡ map is_of_type_inside (take l.x-index l.x-items)
