use Rattle.mz_env_laws.proofs.ClauseProofs.{row_clauses_law, given_rows_law, joined_rows_law}
use Rattle.mz_env_laws.proofs.laws.row_clauses_law.Goals as goal

pub returns-clause-let_in : goal.returns-clause-let_in
returns-clause-let_in c = row_clauses_law

pub returns-clause-given : goal.returns-clause-given
returns-clause-given c = given_rows_law

pub returns-clause-both : goal.returns-clause-both
returns-clause-both c = joined_rows_law
