use Rattle.std.proofs.Common.{◌≡◌, take}
use Rattle.mz_thesis.proofs.same_parts.copies.Given as goal

abbrev pub invariant-loop-s : goal.invariant-loop-s
invariant-loop-s l = l.out.items ≡ take l.s-index l.ss
