use Rattle.std.proofs.Common.{◌≡◌, take, map}
use Rattle.mz_logic.specs.Substitution.{shift}
use Rattle.mz_logic.proofs.shift.+shift.Given as goal

abbrev pub invariant-shift_terms-loop-t : goal.invariant-shift_terms-loop-t
invariant-shift_terms-loop-t l = l.out.items ≡ map (shift l.from l.by) (take l.t-index l.t-items)
