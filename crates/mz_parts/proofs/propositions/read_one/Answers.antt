use Rattle.mz_parts.proofs.PropositionLemmas.{told_one}
use Rattle.mz_parts.proofs.propositions.read_one.Goals as goal

pub returns-in_ok-put_stated-in-Ok-clause-reads : goal.returns-in_ok-put_stated-in-Ok-clause-reads
returns-in_ok-put_stated-in-Ok-clause-reads c = told_one _ _ _ _ _ _ _ _ _ _ c.sentence.ensures.reads c.in-Ok.is c.in_ok-put_stated-in-Ok.ensures
