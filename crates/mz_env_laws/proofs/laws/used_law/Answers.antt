use Rattle.mz_env_laws.proofs.UsedProofs.{used_law}
use Rattle.mz_env_laws.proofs.laws.used_law.Goals as goal

pub returns : goal.returns
returns c = used_law
