use Rattle.std.proofs.Common.{◌≡◌, true, take}
use Rattle.std.specs.List.{list_all}
use Rattle.mz_core.specs.InForce.{adjective_in_force}
use Rattle.mz_core.proofs.in_force.adjectives_in_force.Given as goal

abbrev pub invariant-loop-a : goal.invariant-loop-a
invariant-loop-a l = list_all (adjective_in_force l.next) (take l.a-index l.a-items) ≡ true
