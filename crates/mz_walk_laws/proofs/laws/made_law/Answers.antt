use Rattle.mz_walk_laws.proofs.MadeProofs.{justification_made_law, statement_made_law}
use Rattle.mz_walk_laws.proofs.laws.made_law.Goals as goal

pub returns-clause-justification : goal.returns-clause-justification
returns-clause-justification c = justification_made_law

pub returns-clause-statement : goal.returns-clause-statement
returns-clause-statement c = statement_made_law
