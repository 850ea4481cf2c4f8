use Rattle.mz_parts.proofs.DeclarationLemmas.{told_more, told_no_more}
use Rattle.mz_parts.proofs.declarations.declare_more.Goals as goal

pub returns-in_ok-put_more-in-Ok-clause-declares : goal.returns-in_ok-put_more-in-Ok-clause-declares
returns-in_ok-put_more-in-Ok-clause-declares c = told_more _ _ _ _ _ _ _ _ _ _ _ _ _ _ c.declare.ensures.declares c.in-Ok.is c.declare.ensures.same c.in_ok-put_more-in-Ok.ensures.context c.in_ok-put_more-in-Ok.ensures.variables

pub returns-in-Err-clause-declares : goal.returns-in-Err-clause-declares
returns-in-Err-clause-declares c = told_no_more _ _ _ _ _ _ _ _ _ _ _ _ _ c.declare.ensures.declares c.in-Err.is
