use Rattle.std.proofs.Common.{◌≡◌, map, take}
use Rattle.mz_items.specs.DefinitionRows.{defining_formula}
use Rattle.mz_items.proofs.definition_rows.each_defined.Given as goal

abbrev pub invariant-loop-x : goal.invariant-loop-x
invariant-loop-x l = l.out.items ≡ map (defining_formula l.term l.ty) (take l.x-index l.x-items)
