use Rattle.std.proofs.Common.{ap, sym, ◌∙◌, List}
use Rattle.std.specs.Prelude.{slice_index}
use Rattle.std.specs.List.{list_all}
use Rattle.mz_congruence.specs.declared.graph.Pair.{Pair}
use Rattle.mz_congruence.specs.Closing.{same}
use Rattle.mz_congruence.proofs.ClosingLemmas.{contains_from}
use Rattle.mz_classes.proofs.LabelLemmas.{rule_equal}
use Rattle.mz_classes.proofs.propagate.apply_rule.Goals as goal

pub merge-requires-clause-left : goal.merge-requires-clause-left
merge-requires-clause-left c = (c.requires.within.conclusion _ (contains_from _ _ _ c.get-rule.ensures)).0

pub merge-requires-clause-right : goal.merge-requires-clause-right
merge-requires-clause-right c = (c.requires.within.conclusion _ (contains_from _ _ _ c.get-rule.ensures)).1

pub merge-requires-clause-equal : goal.merge-requires-clause-equal
merge-requires-clause-equal c =
    rule_equal _ _ _ _ c.requires.within c.requires.labelled c.get-rule.ensures (ap (λ (ps : List Pair). list_all (same (slice_index c.args.labels.now)) ps) (sym c.as_slice.ensures) ∙ sym c.all_same.ensures ∙ c.if-all_same.true)
