use Rattle.std.proofs.Common.{◌∙◌}
use Rattle.mz_parts.proofs.TermLemmas.{told_not_terms, told_not_type, told_retyped}
use Rattle.mz_parts.proofs.retyped.read_reconsidered.Goals as goal

pub returns-in-Err-clause-reads : goal.returns-in-Err-clause-reads
returns-in-Err-clause-reads c = told_not_terms _ _ _ _ _ _ _ _ _ _ _ c.new-ts.ensures c.read_all.ensures c.in-Err.is

pub returns-in-Ok-type_of-clause-reads : goal.returns-in-Ok-type_of-clause-reads
returns-in-Ok-type_of-clause-reads c = told_retyped _ _ _ _ _ _ _ _ _ _ _ _ _ _ _ _ c.new-ts.ensures c.read_all.ensures c.in-Ok.is c.type_of.ensures.reads c.in-Ok-type_of.is (c.as_slice.ensures.value ∙ c.ts.view_is) c.in_ok-ds-in-Ok-type_of.ensures

pub returns-clause-reads : goal.returns-clause-reads
returns-clause-reads c = told_not_type _ _ _ _ _ _ _ _ _ _ _ _ _ _ c.new-ts.ensures c.read_all.ensures c.in-Ok.is c.type_of.ensures.reads c.in-Err-type_of.is
