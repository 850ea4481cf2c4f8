use Rattle.std.proofs.Common.{◌≡◌, take, true}
use Rattle.std.specs.List.{list_all}
use Rattle.mz_congruence.specs.Classes.{root}
use Rattle.mz_congruence.specs.Closing.{same}
use Rattle.mz_congruence.proofs.settle.all_same.Given as goal

abbrev pub invariant-loop-p : goal.invariant-loop-p
invariant-loop-p l = list_all (same (root l.c)) (take l.p-index l.ps) ≡ true
