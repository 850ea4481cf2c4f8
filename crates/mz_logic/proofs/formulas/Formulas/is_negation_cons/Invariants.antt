use Rattle.std.proofs.Common.{◌≡◌, ◌+◌, ◌∷◌, take}
use Rattle.mz_logic.specs.Formula.{Not}
use Rattle.mz_logic.proofs.formulas.Formulas.is_negation_cons.Given as goal

abbrev pub invariant-loop-i : goal.invariant-loop-i
invariant-loop-i l = take (l.i + 1) l.self-inside.items.items ≡ Not l.f ∷ take l.i l.others-inside.items.items
