use Rattle.std.proofs.Common.{take}
use Rattle.mz_ground.specs.Growth.{IsNumbered, Grows, IsExpressionOfFormulas}
use Rattle.mz_ground.proofs.ground_part.Ground.add_formulas.Given as goal

abbrev pub invariant-loop-f : goal.invariant-loop-f
invariant-loop-f l = IsNumbered l.fn.self → Grows l.fn.self (IsExpressionOfFormulas (take l.f-index l.f-items)) l.self
