use Rattle.std.proofs.Common.{◌≡◌, take, true}
use Rattle.std.specs.Prelude.{slice_index}
use Rattle.std.specs.List.{list_all}
use Rattle.mz_congruence.specs.Closing.{same}
use Rattle.mz_classes.proofs.labels.all_same.Given as goal

abbrev pub invariant-loop-p : goal.invariant-loop-p
invariant-loop-p l = list_all (same (slice_index l.labels)) (take l.p-index l.ps) ≡ true
