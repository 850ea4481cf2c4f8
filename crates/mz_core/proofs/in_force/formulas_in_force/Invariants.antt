use Rattle.std.proofs.Common.{◌≡◌, true, take}
use Rattle.std.specs.List.{list_all}
use Rattle.mz_core.specs.InForce.{formula_in_force}
use Rattle.mz_core.proofs.in_force.formulas_in_force.Given as goal

abbrev pub invariant-loop-f : goal.invariant-loop-f
invariant-loop-f l = list_all (formula_in_force l.next) (take l.f-index l.f-items) ≡ true
