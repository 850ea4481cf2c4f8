use Rattle.mz_chain_clause_laws.proofs.PlainProofs.{plain_rows_law}
use Rattle.mz_chain_clause_laws.proofs.ChainClauseProofs.{chain_clauses_law, let_in_chain_clauses_law}
use Rattle.mz_chain_clause_laws.proofs.laws.chain_clauses_law.Goals as goal

pub returns-clause-plain : goal.returns-clause-plain
returns-clause-plain c = plain_rows_law

pub returns-clause-entries : goal.returns-clause-entries
returns-clause-entries c = chain_clauses_law

pub returns-clause-let_in : goal.returns-clause-let_in
returns-clause-let_in c = let_in_chain_clauses_law
