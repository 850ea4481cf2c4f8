use Rattle.std.proofs.Common.{◌≡◌, take}
use Rattle.std.specs.Prelude.{flat_map}
use Rattle.mz_context.specs.Occurring.{formula_constants}
use Rattle.mz_problem.proofs.asked.met_constants.Given as goal

abbrev pub invariant-loop-f : goal.invariant-loop-f
invariant-loop-f l = l.out.items ≡ flat_map (formula_constants l.count) (take l.f-index l.f-items)
