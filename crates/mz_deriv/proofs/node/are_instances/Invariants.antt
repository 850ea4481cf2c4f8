use Rattle.std.proofs.Common.{◌≡◌, take, map}
use Rattle.mz_logic.specs.Instance.{instance}
use Rattle.mz_deriv.proofs.node.are_instances.Given as goal

abbrev pub invariant-loop-i : goal.invariant-loop-i
invariant-loop-i l = map (instance l.letters) (take l.i l.fs-inside.items.items) ≡ take l.i l.gs-inside.items.items
