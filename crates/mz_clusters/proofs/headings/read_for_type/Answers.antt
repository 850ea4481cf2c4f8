use Rattle.mz_clusters.proofs.HeadingLemmas.{told_for_refused, told_for}
use Rattle.mz_clusters.proofs.headings.read_for_type.Goals as goal

pub returns-in-Err-clause-reads : goal.returns-in-Err-clause-reads
returns-in-Err-clause-reads c = told_for_refused _ _ _ _ _ _ _ _ _ c.in-Some.is c.type_of.ensures.reads c.in-Err.is

pub returns-in-Ok-clause-reads : goal.returns-in-Ok-clause-reads
returns-in-Ok-clause-reads c = told_for _ _ _ _ _ _ _ _ _ c.in-Some.is c.type_of.ensures.reads c.in-Ok.is
