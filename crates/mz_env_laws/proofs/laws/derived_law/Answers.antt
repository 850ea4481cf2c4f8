use Rattle.mz_env_laws.proofs.DerivedProofs.{said_law, clauses_law, unfoldings_law}
use Rattle.mz_env_laws.proofs.StatementProofs.{statements_law}
use Rattle.mz_env_laws.proofs.SchemeProofs.{schemes_law}
use Rattle.mz_env_laws.proofs.laws.derived_law.Goals as goal

pub returns-clause-said : goal.returns-clause-said
returns-clause-said c = said_law

pub returns-clause-clauses : goal.returns-clause-clauses
returns-clause-clauses c = clauses_law

pub returns-clause-unfoldings : goal.returns-clause-unfoldings
returns-clause-unfoldings c = unfoldings_law

pub returns-clause-statements : goal.returns-clause-statements
returns-clause-statements c = statements_law

pub returns-clause-schemes : goal.returns-clause-schemes
returns-clause-schemes c = schemes_law
