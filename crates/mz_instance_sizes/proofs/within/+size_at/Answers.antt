use Rattle.mz_instance_sizes.proofs.WithinLemmas.{told_more_sizes}
use Rattle.mz_instance_sizes.proofs.within.+size_at.Goals as goal

pub sizes_at-loop-t-preserved : goal.sizes_at-loop-t-preserved
sizes_at-loop-t-preserved t c = told_more_sizes _ _ _ _ _ _ _ _ c.loop-t-test.true c.t-item.is c.loop-t.invariant c.size_at.ensures c.beside-out.ensures
