use Rattle.mz_loci_laws.proofs.BlockProofs.{block_law, let_law, heading_law, end_law}
use Rattle.mz_loci_laws.proofs.laws.block_law.Goals as goal

pub returns-clause-block : goal.returns-clause-block
returns-clause-block c = block_law

pub returns-clause-declared : goal.returns-clause-declared
returns-clause-declared c = let_law

pub returns-clause-heading : goal.returns-clause-heading
returns-clause-heading c = heading_law

pub returns-clause-end : goal.returns-clause-end
returns-clause-end c = end_law
