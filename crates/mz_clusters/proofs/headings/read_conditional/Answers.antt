use Rattle.mz_clusters.proofs.HeadingLemmas.{told_conditional}
use Rattle.mz_clusters.proofs.headings.read_conditional.Goals as goal

pub returns-in-Ok-clause-reads : goal.returns-in-Ok-clause-reads
returns-in-Ok-clause-reads c = told_conditional _ _ _ _ _ _ _ _ _ _ _ c.type_of.ensures.reads c.in-Ok.is c.type_of.ensures.same c.read_implication.ensures.reads
