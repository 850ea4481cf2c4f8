use Rattle.mz_env_laws.proofs.ClosedProofs.{closed_law}
use Rattle.mz_env_laws.proofs.laws.closed_law.Goals as goal

pub returns : goal.returns
returns c = closed_law
