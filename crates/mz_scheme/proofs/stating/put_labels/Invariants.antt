use Rattle.std.proofs.Common.{◌≡◌, ◌++◌, take}
use Rattle.std.specs.Prelude.{flat_map}
use Rattle.mz_steps.specs.Changes.{label_of}
use Rattle.mz_scheme.proofs.stating.put_labels.Given as goal

abbrev pub invariant-loop-p : goal.invariant-loop-p
invariant-loop-p l = l.labelled ≡ l.initial.labelled ++ flat_map label_of (take l.p-index l.ps)
