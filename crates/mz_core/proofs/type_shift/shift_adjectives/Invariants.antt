use Rattle.std.proofs.Common.{◌≡◌, map, take}
use Rattle.mz_core.specs.TypeShift.{shift_adjective}
use Rattle.mz_core.proofs.type_shift.shift_adjectives.Given as goal

abbrev pub invariant-loop-a : goal.invariant-loop-a
invariant-loop-a l = l.out.items ≡ map (shift_adjective l.from l.by) (take l.a-index l.a-items)
