use Rattle.mz_clusters.proofs.HeadingLemmas.{told_of_term_refused, told_of_term_read}
use Rattle.mz_clusters.proofs.headings.read_of_term.Goals as goal

pub returns-in-Err-adjectives_of_term-clause-reads : goal.returns-in-Err-adjectives_of_term-clause-reads
returns-in-Err-adjectives_of_term-clause-reads c = told_of_term_refused _ _ _ _ _ _ _ _ _ _ _ _ _ c.read_for_type.ensures.reads c.in-Ok.is c.read_for_type.ensures.same c.adjectives_of_term.ensures c.in-Err-adjectives_of_term.is

pub returns-in-Ok-adjectives_of_term-clause-reads : goal.returns-in-Ok-adjectives_of_term-clause-reads
returns-in-Ok-adjectives_of_term-clause-reads c = told_of_term_read _ _ _ _ _ _ _ _ _ _ _ _ _ c.read_for_type.ensures.reads c.in-Ok.is c.read_for_type.ensures.same c.adjectives_of_term.ensures c.in-Ok-adjectives_of_term.is
