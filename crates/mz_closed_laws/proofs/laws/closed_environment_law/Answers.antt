use Rattle.mz_closed_laws.proofs.EnvironmentProofs.{given_law}
use Rattle.mz_closed_laws.proofs.laws.closed_environment_law.Goals as goal

pub returns-clause-given : goal.returns-clause-given
returns-clause-given c = given_law
