use Rattle.mz_block_laws.proofs.BlockProofs.{proof_law, now_law, case_law}
use Rattle.mz_block_laws.proofs.laws.whole_block_law.Goals as goal

pub returns-clause-proof : goal.returns-clause-proof
returns-clause-proof c = proof_law

pub returns-clause-now : goal.returns-clause-now
returns-clause-now c = now_law

pub returns-clause-case : goal.returns-clause-case
returns-clause-case c = case_law
