use Rattle.mz_term_laws.proofs.AppliedProofs.{reserved_type_law, radices_law}
use Rattle.mz_term_laws.proofs.TermProofs.{term_law, terms_law}
use Rattle.mz_term_laws.proofs.TypeProofs.{adjectives_law, type_law, registered_law}
use Rattle.mz_term_laws.proofs.laws.term_law.Goals as goal

pub returns-clause-term : goal.returns-clause-term
returns-clause-term z = term_law

pub returns-clause-terms : goal.returns-clause-terms
returns-clause-terms z = terms_law

pub returns-clause-adjectives : goal.returns-clause-adjectives
returns-clause-adjectives z = adjectives_law

pub returns-clause-ty : goal.returns-clause-ty
returns-clause-ty z = type_law

pub returns-clause-registered : goal.returns-clause-registered
returns-clause-registered z = registered_law

pub returns-clause-reserved : goal.returns-clause-reserved
returns-clause-reserved z = reserved_type_law

pub returns-clause-radices : goal.returns-clause-radices
returns-clause-radices z = radices_law
