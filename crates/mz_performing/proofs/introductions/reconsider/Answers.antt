use Rattle.mz_performing.proofs.ReconsiderLemmas.{told_retyped, told_unjustified}
use Rattle.mz_performing.proofs.introductions.reconsider.Goals as goal

pub returns-in-Ok : goal.returns-in-Ok
returns-in-Ok c = told_retyped _ _ _ _ _ _ _ _ _ _ _ _ _ _ _ _ _ _ _ _ c.in_ok-types_owed.ensures c.in-Some.is c.is_some-linked.ensures c.justify_each.ensures c.in-Ok.is c.in_ok-steps-in-Ok.ensures c.perform_all.ensures

pub returns : goal.returns
returns c = told_unjustified _ _ _ _ _ _ _ _ _ _ _ _ _ _ _ _ _ _ _ c.in_ok-types_owed.ensures c.in-Some.is c.is_some-linked.ensures c.justify_each.ensures c.in-Err.is
