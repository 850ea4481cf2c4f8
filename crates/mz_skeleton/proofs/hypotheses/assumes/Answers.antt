use Rattle.mz_skeleton.proofs.AssumeLemmas.{told_all_assumed, told_not_assumed}
use Rattle.mz_skeleton.proofs.hypotheses.assumes.Goals as goal

pub returns-in-Ok : goal.returns-in-Ok
returns-in-Ok c = told_all_assumed _ _ _ _ _ _ _ _ _ _ _ _ _ c.new-stated.ensures c.assume_hypotheses.ensures c.in-Ok.is c.state_within.ensures

pub returns : goal.returns
returns c = told_not_assumed _ _ _ _ _ _ _ _ _ _ c.new-stated.ensures c.assume_hypotheses.ensures c.in-Err.is
