use Rattle.mz_comma_laws.proofs.Formulas.{behind_terms_alone}
use Rattle.mz_comma_laws.proofs.Longer.{behind_terms_always}
use Rattle.mz_comma_laws.proofs.laws.comma_law.Goals as goal

pub returns-clause-alone : goal.returns-clause-alone
returns-clause-alone c = behind_terms_alone

pub returns-clause-always : goal.returns-clause-always
returns-clause-always c = behind_terms_always
