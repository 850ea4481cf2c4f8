use Rattle.mz_parts.proofs.TermLemmas.{told_one}
use Rattle.mz_parts.proofs.retyped.read_side.Goals as goal

pub returns-in_ok-push-in-Ok : goal.returns-in_ok-push-in-Ok
returns-in_ok-push-in-Ok c = told_one _ _ _ _ _ _ _ _ _ _ c.term.ensures c.in-Ok.is c.in_ok-push-in-Ok.ensures.ok
