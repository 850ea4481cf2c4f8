use Rattle.std.proofs.Common.{◌∙◌}
use Rattle.mz_choice.proofs.SuitsLemmas.{told_attribute}
use Rattle.mz_choice.proofs.choice.suits_subject.Goals as goal

pub returns-else-not-is_attribute : goal.returns-else-not-is_attribute
returns-else-not-is_attribute c = told_attribute _ _ _ _ _ _ _ _ c.in-Atom.is c.is_attribute.ensures c.if-not-is_attribute.false (c.as_slice.ensures.value ∙ c.args-in-Atom.view_is) c.ends_with-ends.ensures
