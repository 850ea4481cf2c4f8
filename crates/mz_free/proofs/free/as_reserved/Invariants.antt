use Rattle.std.proofs.Common.{◌≡◌, take}
use Rattle.mz_free.specs.Free.{as_reserved}
use Rattle.mz_free.proofs.free.as_reserved.Given as goal

abbrev pub invariant-loop-x : goal.invariant-loop-x
invariant-loop-x l = l.out ≡ as_reserved l.least l.ctx (take l.x-index l.x-items)
