use Rattle.mz_logic.proofs.SameRelation.{normal_form-IsSame, IsSame-normal_form}
use Rattle.mz_logic.proofs.laws.normal_form_law.Goals as goal

pub returns : goal.returns
returns c = (λ f g. (λ s. normal_form-IsSame s, λ e. IsSame-normal_form f g e))
