use Rattle.mz_classes.specs.Labels.{Labelled}
use Rattle.mz_classes.proofs.propagate.propagate.Given as goal

abbrev pub invariant-steps : goal.invariant-steps
invariant-steps l = Labelled l.graph l.labels
