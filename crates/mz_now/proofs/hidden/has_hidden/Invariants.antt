use Rattle.std.proofs.Common.{◌≡◌, false, take}
use Rattle.std.specs.List.{list_any}
use Rattle.mz_now.specs.Stated.{hides, in_statement}
use Rattle.mz_now.proofs.hidden.has_hidden.Given as goal

abbrev pub invariant-loop-p : goal.invariant-loop-p
invariant-loop-p l = list_any (hides (in_statement l.s)) (take l.p-index l.ps) ≡ false
