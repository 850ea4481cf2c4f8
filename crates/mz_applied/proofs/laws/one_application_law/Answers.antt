use Rattle.mz_applied.proofs.OneApplication.{one_term_law, one_type_law, one_adjective_law, one_statement_law}
use Rattle.mz_applied.proofs.laws.one_application_law.Goals as goal

pub returns-clause-term : goal.returns-clause-term
returns-clause-term c = one_term_law

pub returns-clause-ty : goal.returns-clause-ty
returns-clause-ty c = one_type_law

pub returns-clause-adjective : goal.returns-clause-adjective
returns-clause-adjective c = one_adjective_law

pub returns-clause-statement : goal.returns-clause-statement
returns-clause-statement c = one_statement_law
