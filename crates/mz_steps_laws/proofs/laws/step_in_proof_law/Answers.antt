use Rattle.mz_steps_laws.proofs.ProofSteps.{step_in_proof_law}
use Rattle.mz_steps_laws.proofs.laws.step_in_proof_law.Goals as goal

pub returns : goal.returns
returns c = step_in_proof_law
