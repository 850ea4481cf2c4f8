use Rattle.mz_parts.proofs.DescriptionLemmas.{told_not_stated, told_described}
use Rattle.mz_parts.proofs.described.describe_inside.Goals as goal

pub returns-in-Err-read_propositions-clause-reads : goal.returns-in-Err-read_propositions-clause-reads
returns-in-Err-read_propositions-clause-reads c = told_not_stated _ _ _ _ _ _ _ _ _ _ _ _ _ _ c.read_declarations.ensures.reads c.in-Ok.is c.in-Ok.ensures.context c.read_propositions.ensures.reads c.in-Err-read_propositions.is

pub returns-in-Ok-2-clause-reads : goal.returns-in-Ok-2-clause-reads
returns-in-Ok-2-clause-reads c = told_described _ _ _ _ _ _ _ _ _ _ _ _ _ _ _ _ _ c.in_ok-n.ensures c.read_declarations.ensures.reads c.in-Ok.is c.in-Ok.ensures.context c.read_propositions.ensures.reads c.in-Ok-read_propositions.is c.in_ok-r.ensures c.in-Ok-2.is

pub returns-in-Err-2-clause-reads : goal.returns-in-Err-2-clause-reads
returns-in-Err-2-clause-reads c = told_described _ _ _ _ _ _ _ _ _ _ _ _ _ _ _ _ _ c.in_ok-n.ensures c.read_declarations.ensures.reads c.in-Ok.is c.in-Ok.ensures.context c.read_propositions.ensures.reads c.in-Ok-read_propositions.is c.in_ok-r.ensures c.in-Err-2.is
