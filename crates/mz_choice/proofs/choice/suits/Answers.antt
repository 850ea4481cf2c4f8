use Rattle.mz_choice.proofs.SuitsLemmas.{told_term, told_type}
use Rattle.mz_choice.proofs.choice.suits.Goals as goal

pub returns-in-OfTerm : goal.returns-in-OfTerm
returns-in-OfTerm c = told_term _ _ _ _ c.in-OfTerm.is c.is_anything-any.ensures

pub returns-in-OfType : goal.returns-in-OfType
returns-in-OfType c = told_type _ _ _ _ c.in-OfType.is c.is_anything-plain.ensures
