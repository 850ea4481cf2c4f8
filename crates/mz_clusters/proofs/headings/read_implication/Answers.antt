use Rattle.mz_clusters.proofs.HeadingLemmas.{told_conclusions_refused, told_implication}
use Rattle.mz_clusters.proofs.headings.read_implication.Goals as goal

pub returns-in-Err-adjectives_of_type-clause-reads : goal.returns-in-Err-adjectives_of_type-clause-reads
returns-in-Err-adjectives_of_type-clause-reads c = told_conclusions_refused _ _ _ _ _ _ _ _ _ _ _ _ _ c.read_premises.ensures.reads c.in-Ok.is c.read_premises.ensures.same c.adjectives_of_type.ensures.reads c.in-Err-adjectives_of_type.is

pub returns-in-Ok-adjectives_of_type-clause-reads : goal.returns-in-Ok-adjectives_of_type-clause-reads
returns-in-Ok-adjectives_of_type-clause-reads c = told_implication _ _ _ _ _ _ _ _ _ _ _ _ _ c.read_premises.ensures.reads c.in-Ok.is c.read_premises.ensures.same c.adjectives_of_type.ensures.reads c.in-Ok-adjectives_of_type.is
