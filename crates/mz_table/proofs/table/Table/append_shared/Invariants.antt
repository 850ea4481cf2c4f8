use Rattle.std.proofs.Common.{◌≡◌, ◌++◌, map}
use Rattle.std.specs.Prelude.{take}
use Rattle.std.specs.Arc.{arc_value}
use Rattle.mz_table.proofs.table.Table.append_shared.Given as goal

abbrev pub invariant-loop-x : goal.invariant-loop-x
invariant-loop-x g l = l.self ≡ l.initial.self ++ map arc_value (take l.x-index l.x-items)
