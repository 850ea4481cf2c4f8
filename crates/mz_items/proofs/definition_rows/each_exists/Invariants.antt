use Rattle.std.proofs.Common.{◌≡◌, map, take}
use Rattle.mz_core.specs.StatementForms.{for_some}
use Rattle.mz_items.proofs.definition_rows.each_exists.Given as goal

abbrev pub invariant-loop-x : goal.invariant-loop-x
invariant-loop-x l = l.out.items ≡ map (for_some l.ty) (take l.x-index l.x-items)
