use Rattle.std.proofs.Common.{◌≡◌, false, take}
use Rattle.std.specs.List.{list_any}
use Rattle.mz_now.specs.Stated.{brings_hidden}
use Rattle.mz_steps.proofs.effects.some_brings_hidden.Given as goal

abbrev pub invariant-loop-p : goal.invariant-loop-p
invariant-loop-p l = list_any (brings_hidden l.ps) (take l.p-index l.said) ≡ false
