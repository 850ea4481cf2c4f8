use Rattle.mz_scheme.proofs.HeadingLemmas.{told_no_premises}
use Rattle.mz_scheme.proofs.heading.read_provided.Goals as goal

pub returns-in-None-clause-reads : goal.returns-in-None-clause-reads
returns-in-None-clause-reads c = told_no_premises _ _ _ _ _ _ c.in-None.is c.new.ensures
