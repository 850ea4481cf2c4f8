use Rattle.std.proofs.Common.{◌≡◌, take, map}
use Rattle.std.specs.Prelude.{slice_index}
use Rattle.mz_classes.proofs.labels.have_same_labels.Given as goal

abbrev pub invariant-loop-i : goal.invariant-loop-i
invariant-loop-i l = map (slice_index l.labels) (take l.i l.xs) ≡ map (slice_index l.labels) (take l.i l.ys)
