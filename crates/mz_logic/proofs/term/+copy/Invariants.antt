use Rattle.std.proofs.Common.{◌≡◌, take}
use Rattle.mz_logic.proofs.term.+copy.Given as goal

abbrev pub invariant-Terms::copy-loop-t : goal.invariant-Terms::copy-loop-t
invariant-Terms::copy-loop-t l = l.out.items ≡ take l.t-index l.t-items
