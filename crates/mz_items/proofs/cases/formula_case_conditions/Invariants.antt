use Rattle.std.proofs.Common.{◌≡◌, map, take}
use Rattle.mz_items.specs.Cases.{formula_case_condition}
use Rattle.mz_items.proofs.cases.formula_case_conditions.Given as goal

abbrev pub invariant-loop-x : goal.invariant-loop-x
invariant-loop-x l = l.out.items ≡ map formula_case_condition (take l.x-index l.x-items)
