use Rattle.mz_free.proofs.FreeLemmas.{told_one_more}
use Rattle.mz_free.proofs.free.once.Goals as goal

pub loop-x-preserved : goal.loop-x-preserved
loop-x-preserved c = told_one_more _ _ _ _ _ c.loop-x-test.true c.x-item.is c.loop-x.invariant c.in_ok-push_new.ensures
