use Rattle.mz_compact.proofs.CompactLemmas.{told_not_read, told_plain, told_iterative}
use Rattle.mz_compact.proofs.compact.read_compact.Goals as goal

pub returns-in_ok-x-in-None-clause-reads : goal.returns-in_ok-x-in-None-clause-reads
returns-in_ok-x-in-None-clause-reads c = told_plain _ _ _ _ _ _ _ _ _ _ c.in-None.ensures.cases c.sentence.ensures.reads c.in-Ok.is c.in_ok-x-in-None.ensures

pub returns-in-Some-clause-reads : goal.returns-in-Some-clause-reads
returns-in-Some-clause-reads c = told_iterative _ _ _ _ _ _ _ _ _ _ _ _ _ _ c.in-Some.ensures.cases.0 c.sentence.ensures.reads c.in-Ok.is c.sentence.ensures.same c.read_iterative.ensures.reads

pub returns-in-Err-clause-reads : goal.returns-in-Err-clause-reads
returns-in-Err-clause-reads c = told_not_read _ _ _ _ _ _ _ _ _ _ c.sentence.ensures.reads c.in-Err.is c.resolved.ensures
