use Rattle.std.proofs.Common.{◌≡◌, take, false}
use Rattle.std.specs.List.{list_any}
use Rattle.mz_logic.specs.Constants.{occurs}
use Rattle.mz_logic.proofs.term.+occurs.Given as goal

abbrev pub invariant-Terms::have_constant-loop-t : goal.invariant-Terms::have_constant-loop-t
invariant-Terms::have_constant-loop-t l = list_any (occurs l.number) (take l.t-index l.t-items) ≡ false
