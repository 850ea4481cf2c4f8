use Rattle.mz_walk_value_laws.proofs.OneWalk.{one_justified_law, one_proof_law, one_statement_law, one_step_law, one_cases_law, one_walk_law}
use Rattle.mz_walk_value_laws.proofs.laws.one_walk_law.Goals as goal

pub returns-clause-justified : goal.returns-clause-justified
returns-clause-justified c = one_justified_law

pub returns-clause-proof : goal.returns-clause-proof
returns-clause-proof c = one_proof_law

pub returns-clause-statement : goal.returns-clause-statement
returns-clause-statement c = one_statement_law

pub returns-clause-step : goal.returns-clause-step
returns-clause-step c = one_step_law

pub returns-clause-cases : goal.returns-clause-cases
returns-clause-cases c = one_cases_law

pub returns-clause-steps : goal.returns-clause-steps
returns-clause-steps c = one_walk_law
