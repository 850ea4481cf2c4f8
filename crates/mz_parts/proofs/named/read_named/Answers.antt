use Rattle.mz_parts.proofs.NameLemmas.{told_named}
use Rattle.mz_parts.proofs.named.read_named.Goals as goal

pub returns-in_ok-d-in-Ok : goal.returns-in_ok-d-in-Ok
returns-in_ok-d-in-Ok c = told_named _ _ _ _ _ _ _ _ _ c.term.ensures c.in-Ok.is c.in_ok-d-in-Ok.ensures
