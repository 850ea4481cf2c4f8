use Rattle.std.proofs.Common.{◌≡◌, true, take}
use Rattle.std.specs.List.{list_all}
use Rattle.mz_core.specs.InForce.{term_in_force}
use Rattle.mz_core.proofs.in_force.+in_force.Given as goal

abbrev pub invariant-terms_in_force-loop-t : goal.invariant-terms_in_force-loop-t
invariant-terms_in_force-loop-t l = list_all (term_in_force l.next) (take l.t-index l.t-items) ≡ true
