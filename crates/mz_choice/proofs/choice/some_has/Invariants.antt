use Rattle.std.proofs.Common.{◌≡◌, false, take}
use Rattle.std.specs.List.{list_any}
use Rattle.mz_logic.specs.Constants.{occurs}
use Rattle.mz_choice.proofs.choice.some_has.Given as goal

abbrev pub invariant-loop-t : goal.invariant-loop-t
invariant-loop-t l = list_any (occurs l.n) (take l.t-index l.ts) ≡ false
