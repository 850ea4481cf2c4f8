use Rattle.std.proofs.Common.{◌≡◌, map, take}
use Rattle.mz_logic.specs.Literal.{literal_formula}
use Rattle.mz_core.proofs.guard.literal_formulas.Given as goal

abbrev pub invariant-loop-l : goal.invariant-loop-l
invariant-loop-l l = l.out.items ≡ map literal_formula (take l.l-index l.l-items)
