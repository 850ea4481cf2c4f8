use Rattle.std.proofs.Common.{◌≡◌, take}
use Rattle.mz_logic.proofs.formulas.Formulas.copy.Given as goal

abbrev pub invariant-loop-f : goal.invariant-loop-f
invariant-loop-f l = l.out.items ≡ take l.f-index l.f-items
