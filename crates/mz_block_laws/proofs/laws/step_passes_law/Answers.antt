use Rattle.mz_block_laws.proofs.StepProofs.{step_passes_law}
use Rattle.mz_block_laws.proofs.OrderProofs.{step_order_law}
use Rattle.mz_block_laws.proofs.laws.step_passes_law.Goals as goal

pub returns-clause-passes : goal.returns-clause-passes
returns-clause-passes c = step_passes_law

pub returns-clause-order : goal.returns-clause-order
returns-clause-order c = step_order_law
