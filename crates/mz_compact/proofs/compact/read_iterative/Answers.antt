use Rattle.mz_compact.proofs.CompactLemmas.{told_not_said, told_said}
use Rattle.mz_compact.proofs.compact.read_iterative.Goals as goal

pub returns-in-Ok-clause-reads : goal.returns-in-Ok-clause-reads
returns-in-Ok-clause-reads c = told_said _ _ _ _ _ _ _ _ _ c.read_equality.ensures.reads c.in-Ok.is

pub returns-in-Err-clause-reads : goal.returns-in-Err-clause-reads
returns-in-Err-clause-reads c = told_not_said _ _ _ _ _ _ _ _ _ c.read_equality.ensures.reads c.in-Err.is
