use Rattle.mz_term_laws.specs.Whole.{IsWhole}
use Rattle.mz_walk_laws.proofs.WalkProofs.{skeleton_law, justification_law, statement_law}
use Rattle.mz_whole_laws.proofs.laws.whole_law.Goals as goal

pub returns-clause-skeleton : goal.returns-clause-skeleton
returns-clause-skeleton c = skeleton_law (IsWhole 0)

pub returns-clause-justification : goal.returns-clause-justification
returns-clause-justification c = justification_law (IsWhole 0)

pub returns-clause-statement : goal.returns-clause-statement
returns-clause-statement c = statement_law (IsWhole 0)
