use Rattle.mz_block_laws.proofs.MetProofs.{justified_law, given_law}
use Rattle.mz_block_laws.proofs.laws.justified_law.Goals as goal

pub returns-clause-statement : goal.returns-clause-statement
returns-clause-statement c = justified_law

pub returns-clause-given : goal.returns-clause-given
returns-clause-given c = given_law
