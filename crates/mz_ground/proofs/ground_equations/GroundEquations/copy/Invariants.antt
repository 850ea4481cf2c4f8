use Rattle.std.proofs.Common.{◌≡◌, take}
use Rattle.mz_ground.proofs.ground_equations.GroundEquations.copy.Given as goal

abbrev pub invariant-loop-item : goal.invariant-loop-item
invariant-loop-item l = l.out ≡ take l.item-index l.item-items
