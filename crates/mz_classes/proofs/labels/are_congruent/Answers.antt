use Rattle.std.proofs.Common.{ap, sym, ◌∙◌, map}
use Rattle.std.specs.Prelude.{slice_index}
use Rattle.mz_classes.proofs.LabelLemmas.{nodes_equal}
use Rattle.mz_classes.proofs.labels.are_congruent.Goals as goal

pub returns-then-have_one_head : goal.returns-then-have_one_head
returns-then-have_one_head c = λ h.
    nodes_equal _ _ _ _ _ _ c.requires.within c.requires.labelled c.get-a.ensures c.get-b.ensures (c.have_one_head.ensures c.if-have_one_head.true)
    (ap (map (slice_index c.args.labels.now)) (sym c.as_slice.ensures) ∙ c.have_same_labels.ensures h ∙ ap (map (slice_index c.args.labels.now)) c.as_slice-then-have_one_head.ensures)
