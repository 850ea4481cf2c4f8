use Rattle.std.proofs.Common.{◌≡◌, map, take}
use Rattle.mz_core.specs.Statement.{Eq}
use Rattle.mz_items.proofs.definition_rows.each_equal.Given as goal

abbrev pub invariant-loop-x : goal.invariant-loop-x
invariant-loop-x l = l.out.items ≡ map (Eq l.term) (take l.x-index l.x-items)
