use Rattle.std.proofs.Common.{◌≡◌, map, take}
use Rattle.mz_defined.specs.Definientia.{formula_case_over}
use Rattle.mz_heading.proofs.definientia.formula_cases_over.Given as goal

abbrev pub invariant-loop-k : goal.invariant-loop-k
invariant-loop-k l = l.out.items ≡ map (formula_case_over l.least l.count l.inner) (take l.k-index l.k-items)
