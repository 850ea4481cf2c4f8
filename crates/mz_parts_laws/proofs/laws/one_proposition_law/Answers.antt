use Rattle.mz_parts_laws.proofs.OneProposition.{one_propositions, one_description}
use Rattle.mz_parts_laws.proofs.laws.one_proposition_law.Goals as goal

pub returns-clause-propositions : goal.returns-clause-propositions
returns-clause-propositions c = one_propositions

pub returns-clause-description : goal.returns-clause-description
returns-clause-description c = one_description
