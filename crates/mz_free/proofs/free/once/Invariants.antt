use Rattle.std.proofs.Common.{◌≡◌, [], take}
use Rattle.mz_free.specs.Free.{once_behind}
use Rattle.mz_free.proofs.free.once.Given as goal

abbrev pub invariant-loop-x : goal.invariant-loop-x
invariant-loop-x l = l.out ≡ once_behind [] (take l.x-index l.x-items)
