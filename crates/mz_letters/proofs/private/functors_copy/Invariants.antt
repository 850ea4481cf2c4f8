use Rattle.std.proofs.Common.{◌≡◌, take}
use Rattle.mz_letters.proofs.private.functors_copy.Given as goal

abbrev pub invariant-loop-f : goal.invariant-loop-f
invariant-loop-f l = l.out ≡ take l.f-index l.f-items
