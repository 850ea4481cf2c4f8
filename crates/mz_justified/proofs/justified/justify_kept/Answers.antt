use Rattle.mz_justified.proofs.OweLemmas.{told_justified, told_not_justified}
use Rattle.mz_justified.proofs.justified.justify_kept.Goals as goal

pub returns-in_ok-oblige-in-Ok : goal.returns-in_ok-oblige-in-Ok
returns-in_ok-oblige-in-Ok c = told_justified _ _ _ _ _ _ _ _ _ _ _ _ _ _ _ c.requires c.ground.ensures c.in-Ok.is c.place_of.ensures c.in_ok-oblige-in-Ok.ensures

pub returns-in-Err : goal.returns-in-Err
returns-in-Err c = told_not_justified _ _ _ _ _ _ _ _ _ _ _ _ _ _ _ c.requires c.ground.ensures c.in-Err.is
