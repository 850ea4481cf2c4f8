use Rattle.mz_skeleton.proofs.AssumeLemmas.{told_one, told_several}
use Rattle.mz_skeleton.proofs.hypotheses.assume_hypotheses.Goals as goal

pub returns-in-One : goal.returns-in-One
returns-in-One c = told_one _ _ _ _ _ _ _ c.in-One.is c.assume_one.ensures

pub returns-in-That : goal.returns-in-That
returns-in-That c = told_several _ _ _ _ _ _ _ _ c.in-That.is c.assume_all.ensures
