use Rattle.mz_performing.proofs.ConsiderLemmas.{told_unread, told_unjustified, told_considered}
use Rattle.mz_performing.proofs.introductions.considers.Goals as goal

pub returns-in-Ok-justify_existential : goal.returns-in-Ok-justify_existential
returns-in-Ok-justify_existential c = told_considered _ _ _ _ _ _ _ _ _ _ _ _ _ _ _ _ _ _ _ _ _ c.is_some.ensures c.is_linked.ensures c.if-not-is_linked.false c.describe.ensures.reads c.in-Ok.is c.describe.ensures.same c.justify_existential.ensures c.in-Ok-justify_existential.is c.consider.ensures

pub returns-in-Err-justify_existential : goal.returns-in-Err-justify_existential
returns-in-Err-justify_existential c = told_unjustified _ _ _ _ _ _ _ _ _ _ _ _ _ _ _ _ _ _ _ _ _ c.is_some.ensures c.is_linked.ensures c.if-not-is_linked.false c.describe.ensures.reads c.in-Ok.is c.describe.ensures.same c.justify_existential.ensures c.in-Err-justify_existential.is

pub returns-in-Err : goal.returns-in-Err
returns-in-Err c = told_unread _ _ _ _ _ _ _ _ _ _ _ _ _ _ _ _ _ c.is_some.ensures c.is_linked.ensures c.if-not-is_linked.false c.describe.ensures.reads c.in-Err.is c.resolved.ensures
