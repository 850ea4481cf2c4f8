use Rattle.std.proofs.Common.{◌≡◌, ◌++◌, map, take}
use Rattle.mz_core.specs.Guard.{radix_literals, adjective_literal}
use Rattle.mz_core.proofs.guard.guard_literals.Given as goal

abbrev pub invariant-loop-a : goal.invariant-loop-a
invariant-loop-a l = l.ls ≡ radix_literals l.ty.radix l.at ++ map (adjective_literal l.at) (take l.a-index l.a-items)
