use Rattle.std.proofs.Common.{◌≡◌, take}
use Rattle.mz_copies.proofs.schemes.scheme_letters_copy.Given as goal

abbrev pub invariant-loop-x : goal.invariant-loop-x
invariant-loop-x l = l.out.items ≡ take l.x-index l.x-items
