use Rattle.mz_problem_laws.proofs.OneProblemProofs.{one_problem_law}
use Rattle.mz_problem_laws.proofs.laws.one_problem_law.Goals as goal

pub returns : goal.returns
returns c = one_problem_law
