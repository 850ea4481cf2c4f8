use Rattle.std.proofs.Common.{◌≡◌, map, take}
use Rattle.mz_core.specs.StatementForms.{equivalence}
use Rattle.mz_items.proofs.definition_rows.each_equivalent.Given as goal

abbrev pub invariant-loop-x : goal.invariant-loop-x
invariant-loop-x l = l.out.items ≡ map (equivalence l.f) (take l.x-index l.x-items)
