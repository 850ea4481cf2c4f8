use Rattle.std.proofs.Common.{◌≡◌, map, take}
use Rattle.mz_items.specs.DefinitionRows.{mode_defining_formula}
use Rattle.mz_items.proofs.definition_rows.each_mode_defined.Given as goal

abbrev pub invariant-loop-x : goal.invariant-loop-x
invariant-loop-x l = l.out.items ≡ map (mode_defining_formula l.mode l.ty) (take l.x-index l.x-items)
