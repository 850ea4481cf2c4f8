use Rattle.mz_steps_laws.proofs.BlockProofs.{step_grows_law, more_grew_law, proof_grew_law, now_grew_law, block_law}
use Rattle.mz_steps_laws.proofs.laws.block_law.Goals as goal

pub returns-clause-step : goal.returns-clause-step
returns-clause-step c = step_grows_law

pub returns-clause-more : goal.returns-clause-more
returns-clause-more c = more_grew_law

pub returns-clause-proof : goal.returns-clause-proof
returns-clause-proof c = proof_grew_law

pub returns-clause-now : goal.returns-clause-now
returns-clause-now c = now_grew_law

pub returns-clause-block : goal.returns-clause-block
returns-clause-block c = block_law
