use Rattle.mz_clusters.proofs.HeadingLemmas.{told_premises}
use Rattle.mz_clusters.proofs.headings.read_premises.Goals as goal

pub returns-in-Some-clause-reads : goal.returns-in-Some-clause-reads
returns-in-Some-clause-reads c = told_premises _ _ _ _ _ _ _ _ _ c.in-Some.is c.adjectives_of_type.ensures.reads
