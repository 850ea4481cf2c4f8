use Rattle.std.proofs.Common.{◌≡◌, ◌++◌, map}
use Rattle.std.specs.Prelude.{take}
use Rattle.std.specs.Arc.{arc_value}
use Rattle.mz_env.proofs.visits.push_exports.Given as goal

abbrev pub invariant-loop-e : goal.invariant-loop-e
invariant-loop-e l = l.out ≡ l.initial.out ++ map arc_value (take l.e-index l.e-items)
