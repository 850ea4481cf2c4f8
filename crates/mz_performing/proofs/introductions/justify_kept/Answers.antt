use Rattle.std.proofs.Common.{◌≡◌, length, sym, ap, ◌∙◌}
use Rattle.mz_performing.proofs.EachLemmas.{told_none, told_owed_of, told_not_grounded}
use Rattle.mz_performing.proofs.introductions.justify_kept.Goals as goal

pub returns-in-None : goal.returns-in-None
returns-in-None c = told_none _ _ _ _ _ _ _ _ _ _ (ap length (sym (c.as_slice.ensures.value ∙ c.ss.view_is)) ∙ c.in-None.ensures.cases)

pub returns-in_ok-oblige_each-in-Ok : goal.returns-in_ok-oblige_each-in-Ok
returns-in_ok-oblige_each-in-Ok c =
    told_owed_of _ _ _ _ _ _ _ _ _ _ _ _ _ _ _ _ _ _ _ c.requires (sym (c.as_slice.ensures.value ∙ c.ss.view_is) ∙ c.in-Some.ensures.cases.0) c.if-not-spend_each.ensures.spent c.ground.ensures c.in-Ok.is c.place_of-place-in-Ok.ensures (c.as_slice-in-Ok.ensures.value ∙ c.ss.view_is) c.in_ok-oblige_each-in-Ok.ensures

pub returns-in-Err : goal.returns-in-Err
returns-in-Err c = told_not_grounded _ _ _ _ _ _ _ _ _ _ _ _ _ _ _ _ _ _ c.requires (sym (c.as_slice.ensures.value ∙ c.ss.view_is) ∙ c.in-Some.ensures.cases.0) c.if-not-spend_each.ensures.spent c.ground.ensures c.in-Err.is
