use Rattle.mz_problem_laws.proofs.ProblemProofs.{joined_problem_law}
use Rattle.mz_problem_laws.proofs.laws.joined_problem_law.Goals as goal

pub returns : goal.returns
returns c = joined_problem_law
