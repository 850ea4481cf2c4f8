use Rattle.mz_free.proofs.FreeLemmas.{told_one_typed}
use Rattle.mz_free.proofs.free.as_reserved.Goals as goal

pub loop-x-preserved : goal.loop-x-preserved
loop-x-preserved c = told_one_typed c.args.least c.args.ctx.now _ _ _ _ _ c.loop-x-test.true c.x-item.is c.loop-x.invariant c.in_ok-put_reserved.ensures
