use Rattle.mz_skeleton.proofs.AssumeLemmas.{told_no_condition, told_condition, told_unassumed_condition}
use Rattle.mz_skeleton.proofs.hypotheses.assume_conditions.Goals as goal

pub returns-in-None : goal.returns-in-None
returns-in-None c = told_no_condition _ _ _ _ _ _ _ _ _ c.in-None.is c.new-stated.ensures c.state_within.ensures

pub returns-in-Ok : goal.returns-in-Ok
returns-in-Ok c = told_condition _ _ _ _ _ _ _ _ _ _ _ _ _ _ c.in-Some.is c.new-stated.ensures c.assume_all.ensures c.in-Ok.is c.state_within-in-Ok.ensures

pub returns : goal.returns
returns c = told_unassumed_condition _ _ _ _ _ _ _ _ _ _ _ c.in-Some.is c.new-stated.ensures c.assume_all.ensures c.in-Err.is
