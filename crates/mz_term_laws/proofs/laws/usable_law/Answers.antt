use Rattle.mz_term_laws.proofs.UsableProofs.{usable_term_law, usable_type_law, usable_statement_law, usable_back_law, none_usable_law, more_usable_law}
use Rattle.mz_term_laws.proofs.laws.usable_law.Goals as goal

pub returns-clause-term : goal.returns-clause-term
returns-clause-term z = usable_term_law

pub returns-clause-ty : goal.returns-clause-ty
returns-clause-ty z = usable_type_law

pub returns-clause-statement : goal.returns-clause-statement
returns-clause-statement z = usable_statement_law

pub returns-clause-more : goal.returns-clause-more
returns-clause-more z = more_usable_law

pub returns-clause-back : goal.returns-clause-back
returns-clause-back z = usable_back_law

pub returns-clause-nothing : goal.returns-clause-nothing
returns-clause-nothing z = none_usable_law
