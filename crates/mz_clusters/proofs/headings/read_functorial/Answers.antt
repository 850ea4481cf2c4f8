use Rattle.mz_clusters.proofs.HeadingLemmas.{told_functorial}
use Rattle.mz_clusters.proofs.headings.read_functorial.Goals as goal

pub returns-in-Ok-clause-reads : goal.returns-in-Ok-clause-reads
returns-in-Ok-clause-reads c = told_functorial _ _ _ _ _ _ _ _ _ _ c.term.ensures c.in-Ok.is c.read_of_term.ensures.reads
