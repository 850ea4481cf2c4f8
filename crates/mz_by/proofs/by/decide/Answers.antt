use Rattle.mz_by.proofs.LimitLemmas.{gives_terms, gives_atoms}
use Rattle.mz_by.proofs.by.decide.Goals as goal

pub returns-in-Err-TooManyTerms : goal.returns-in-Err-TooManyTerms
returns-in-Err-TooManyTerms c = gives_terms _ _ _ _ c.in-Err-TooManyTerms.field-0-is c.in-Err-TooManyTerms.ensures

pub returns-in-Err-TooManyAtoms : goal.returns-in-Err-TooManyAtoms
returns-in-Err-TooManyAtoms c = gives_atoms _ _ _ _ c.in-Err-TooManyAtoms.field-0-is c.in-Err-TooManyAtoms.ensures
