use Rattle.mz_problem_laws.proofs.ProblemProofs.{problem_law}
use Rattle.mz_problem_laws.proofs.laws.problem_law.Goals as goal

pub returns : goal.returns
returns c = problem_law
