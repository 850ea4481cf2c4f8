use Rattle.mz_parts.proofs.DeclarationLemmas.{told_typed, told_untyped}
use Rattle.mz_parts.proofs.declarations.declare.Goals as goal

pub returns-in_ok-vs-in-Ok-clause-declares : goal.returns-in_ok-vs-in-Ok-clause-declares
returns-in_ok-vs-in-Ok-clause-declares c = told_typed _ _ _ _ _ _ _ _ _ _ _ _ _ _ _ c.in-Typed.is c.deref.ensures c.type_at.ensures.reads c.in-Ok.is c.in_ok-vs-in-Ok.ensures.variables c.in_ok-vs-in-Ok.ensures.waiting

pub returns-in-Err-clause-declares : goal.returns-in-Err-clause-declares
returns-in-Err-clause-declares c = told_untyped _ _ _ _ _ _ _ _ _ _ _ _ _ _ c.in-Typed.is c.deref.ensures c.type_at.ensures.reads c.in-Err.is
