use Rattle.std.proofs.Common.{◌≡◌, take}
use Rattle.mz_types.proofs.structure_types.copied.Given as goal

abbrev pub invariant-loop-t : goal.invariant-loop-t
invariant-loop-t l = l.out ≡ take l.t-index l.ts
