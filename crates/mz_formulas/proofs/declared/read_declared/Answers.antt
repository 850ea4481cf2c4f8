use Rattle.std.proofs.Common.{◌≡◌, None, arith}
use Rattle.mz_formulas.proofs.DeclaredLemmas.{told_context}
use Rattle.mz_formulas.proofs.declared.read_declared.Goals as goal

pub returns-in_ok-put_more-in-Ok-clause-context : goal.returns-in_ok-put_more-in-Ok-clause-context
returns-in_ok-put_more-in-Ok-clause-context c =
    let none : c.in_ok-r.field-0 ≡ None = grind arith in
    told_context _ _ _ _ _ _ _ _ _ _ _ _ _ c.new-vs.ensures c.new-waiting.ensures.items c.in_ok-r.ensures.declares none c.in_ok-put_more-in-Ok.ensures.context c.in_ok-put_more-in-Ok.ensures.variables
