use Rattle.mz_problem.proofs.OpenedLemmas.{leading}
use Rattle.mz_problem.proofs.opened.+open.Given as goal

abbrev pub decreases-open : goal.decreases-open
decreases-open l = leading l.s.now
