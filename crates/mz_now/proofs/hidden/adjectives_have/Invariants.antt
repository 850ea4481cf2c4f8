use Rattle.std.proofs.Common.{◌≡◌, false, take}
use Rattle.std.specs.List.{list_any}
use Rattle.mz_now.specs.Stated.{adjective_has}
use Rattle.mz_now.proofs.hidden.adjectives_have.Given as goal

abbrev pub invariant-loop-a : goal.invariant-loop-a
invariant-loop-a l = list_any (adjective_has l.c) (take l.a-index l.a-items) ≡ false
