use Rattle.std.proofs.Common.{◌≡◌, map}
use Rattle.std.specs.Prelude.{take}
use Rattle.std.specs.Arc.{arc_value}
use Rattle.mz_table.proofs.table.Table.copy.Given as goal

abbrev pub invariant-loop-x : goal.invariant-loop-x
invariant-loop-x g l = l.out ≡ map arc_value (take l.x-index l.x-items)
