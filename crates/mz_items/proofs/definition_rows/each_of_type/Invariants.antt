use Rattle.std.proofs.Common.{◌≡◌, map, take}
use Rattle.mz_core.specs.TypeStatements.{is_of_type}
use Rattle.mz_items.proofs.definition_rows.each_of_type.Given as goal

abbrev pub invariant-loop-x : goal.invariant-loop-x
invariant-loop-x l = l.out.items ≡ map (is_of_type l.ty) (take l.x-index l.x-items)
