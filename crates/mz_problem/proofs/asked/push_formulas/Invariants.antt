use Rattle.std.proofs.Common.{◌≡◌, ◌++◌, map, take}
use Rattle.mz_logic.specs.Literal.{literal_formula}
use Rattle.mz_problem.proofs.asked.push_formulas.Given as goal

abbrev pub invariant-loop-l : goal.invariant-loop-l
invariant-loop-l l = l.out ≡ l.initial.out ++ map literal_formula (take l.l-index l.l-items)
