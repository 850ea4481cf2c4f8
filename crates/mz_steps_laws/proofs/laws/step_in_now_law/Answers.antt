use Rattle.mz_steps_laws.proofs.NowProofs.{step_in_now_law}
use Rattle.mz_steps_laws.proofs.laws.step_in_now_law.Goals as goal

pub returns : goal.returns
returns c = step_in_now_law
