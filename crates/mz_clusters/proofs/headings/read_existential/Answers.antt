use Rattle.mz_clusters.proofs.HeadingLemmas.{told_no_adjectives, told_existential}
use Rattle.mz_clusters.proofs.headings.read_existential.Goals as goal

pub returns-in-Err-adjectives_of_type-clause-reads : goal.returns-in-Err-adjectives_of_type-clause-reads
returns-in-Err-adjectives_of_type-clause-reads c = told_no_adjectives _ _ _ _ _ _ _ _ _ _ _ _ c.registered_type.ensures.reads c.in-Ok.is c.registered_type.ensures.same c.adjectives_of_type.ensures.reads c.in-Err-adjectives_of_type.is

pub returns-in-Ok-adjectives_of_type-clause-reads : goal.returns-in-Ok-adjectives_of_type-clause-reads
returns-in-Ok-adjectives_of_type-clause-reads c = told_existential _ _ _ _ _ _ _ _ _ _ _ _ c.registered_type.ensures.reads c.in-Ok.is c.registered_type.ensures.same c.adjectives_of_type.ensures.reads c.in-Ok-adjectives_of_type.is
