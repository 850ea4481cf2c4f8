use Rattle.std.proofs.Common.{◌≡◌, map, take}
use Rattle.mz_items.specs.DefinitionRows.{unique}
use Rattle.mz_items.proofs.definition_rows.each_unique.Given as goal

abbrev pub invariant-loop-x : goal.invariant-loop-x
invariant-loop-x l = l.out.items ≡ map (unique l.ty) (take l.x-index l.x-items)
