use Rattle.std.proofs.Common.{take}
use Rattle.mz_ground.specs.Growth.{Grows}
use Rattle.mz_ground.specs.Instances.{IsInstanceExpression, IsAmong}
use Rattle.mz_ground.proofs.ground_part.Ground.add_at.Given as goal

abbrev pub invariant-loop-place : goal.invariant-loop-place
invariant-loop-place l = Grows l.fn.self (IsInstanceExpression l.c (IsAmong l.fn.self l.c.trigger (take l.place-index l.places))) l.self
