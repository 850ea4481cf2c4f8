use Rattle.std.proofs.Common.{arith, ◌∙◌}
use Rattle.mz_classes.proofs.LabelLemmas.{labelled_start}
use Rattle.mz_classes.proofs.propagate.propagated_labels.Goals as goal

pub propagate-requires-clause-labelled : goal.propagate-requires-clause-labelled
propagate-requires-clause-labelled c =
    rw c.as_mut_slice.ensures.value (labelled_start _ _ (c.in_ok-labels.ensures.0 ∙ c.len.ensures) (λ i lt. c.in_ok-labels.ensures.1 i (omega (arith, lt, c.len.ensures))))
