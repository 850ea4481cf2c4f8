use Rattle.mz_parts.proofs.DeclarationLemmas.{told_first_refused, told_first_read_each}
use Rattle.mz_parts.proofs.declarations.declare_all.Goals as goal

pub returns-in-Ok-clause-declares : goal.returns-in-Ok-clause-declares
returns-in-Ok-clause-declares c = told_first_read_each _ _ _ _ _ _ _ _ _ _ _ _ _ _ c.declare_more.ensures.declares c.in-Ok.is c.as_slice.ensures.value c.declare_each.ensures.declares

pub returns-in-Err-clause-declares : goal.returns-in-Err-clause-declares
returns-in-Err-clause-declares c = told_first_refused _ _ _ _ _ _ _ _ _ _ _ _ c.declare_more.ensures.declares c.in-Err.is
