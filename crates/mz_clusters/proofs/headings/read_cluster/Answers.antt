use Rattle.mz_clusters.proofs.HeadingLemmas.{told_existential_refused, told_existential_read, told_conditional_refused, told_conditional_read, told_functorial_refused, told_functorial_read}
use Rattle.mz_clusters.proofs.headings.read_cluster.Goals as goal

pub returns-in-Err-clause-reads : goal.returns-in-Err-clause-reads
returns-in-Err-clause-reads c = told_existential_refused _ _ _ _ _ _ _ _ _ c.in-Existential.is c.read_existential.ensures.reads c.in-Err.is

pub returns-in-Ok-clause-reads : goal.returns-in-Ok-clause-reads
returns-in-Ok-clause-reads c = told_existential_read _ _ _ _ _ _ _ _ _ c.in-Existential.is c.read_existential.ensures.reads c.in-Ok.is

pub returns-in-Err-read_conditional-clause-reads : goal.returns-in-Err-read_conditional-clause-reads
returns-in-Err-read_conditional-clause-reads c = told_conditional_refused _ _ _ _ _ _ _ _ _ c.in-Conditional.is c.read_conditional.ensures.reads c.in-Err-read_conditional.is

pub returns-in-Ok-read_conditional-clause-reads : goal.returns-in-Ok-read_conditional-clause-reads
returns-in-Ok-read_conditional-clause-reads c = told_conditional_read _ _ _ _ _ _ _ _ _ c.in-Conditional.is c.read_conditional.ensures.reads c.in-Ok-read_conditional.is

pub returns-in-Err-read_functorial-clause-reads : goal.returns-in-Err-read_functorial-clause-reads
returns-in-Err-read_functorial-clause-reads c = told_functorial_refused _ _ _ _ _ _ _ _ _ c.in-Functorial.is c.read_functorial.ensures.reads c.in-Err-read_functorial.is

pub returns-in-Ok-read_functorial-clause-reads : goal.returns-in-Ok-read_functorial-clause-reads
returns-in-Ok-read_functorial-clause-reads c = told_functorial_read _ _ _ _ _ _ _ _ _ c.in-Functorial.is c.read_functorial.ensures.reads c.in-Ok-read_functorial.is
