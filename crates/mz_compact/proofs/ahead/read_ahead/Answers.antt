use Rattle.mz_compact.proofs.AheadLemmas.{told_not_begun, told_keeps_ahead}
use Rattle.mz_compact.proofs.ahead.read_ahead.Goals as goal

pub returns-in-Refused-clause-keeps : goal.returns-in-Refused-clause-keeps
returns-in-Refused-clause-keeps c = told_not_begun _ _ _ _ _ _ _ _ _ _ _ c.sentence.ensures.reads c.in-Err.is c.in-Refused.is

pub returns-in_ok-kept-in-Ok-clause-keeps : goal.returns-in_ok-kept-in-Ok-clause-keeps
returns-in_ok-kept-in-Ok-clause-keeps c = told_keeps_ahead _ _ _ _ _ _ _ _ _ _ _ _ _ _ c.sentence.ensures.reads c.in-Ok.is c.sentence.ensures.same c.in_ok-us-in-Ok.ensures.reads c.in_ok-us-in-Ok.ensures.same c.in_ok-kept-in-Ok.ensures
