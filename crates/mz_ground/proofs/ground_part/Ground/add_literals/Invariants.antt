use Rattle.std.proofs.Common.{List, map, take}
use Rattle.mz_logic.specs.Term.{Term}
use Rattle.mz_ground.specs.Instance.{literal_at}
use Rattle.mz_ground.specs.Growth.{ReadsIn, Grows, IsExpressionOfLiterals}
use Rattle.mz_ground.proofs.ground_part.Ground.add_literals.Given as goal

abbrev pub invariant-loop-item : goal.invariant-loop-item
invariant-loop-item l = (ts : List Term) → ReadsIn l.fn.self l.args ts → Grows l.fn.self (IsExpressionOfLiterals (map (literal_at ts) (take l.item-index l.item-items))) l.self
