use Rattle.mz_classes.specs.Labels.{Relabelled}
use Rattle.mz_classes.proofs.labels.relabel.Given as goal

abbrev pub invariant-loop-i : goal.invariant-loop-i
invariant-loop-i l = Relabelled l.from l.to l.fn.labels l.labels
