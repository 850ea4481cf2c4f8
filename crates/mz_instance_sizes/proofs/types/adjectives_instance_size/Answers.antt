use Rattle.mz_instance_sizes.proofs.BesideLemmas.{told_more_of}
use Rattle.mz_instance_sizes.proofs.types.adjectives_instance_size.Goals as goal

pub loop-a-preserved : goal.loop-a-preserved
loop-a-preserved c = told_more_of _ _ _ _ _ _ _ _ c.loop-a-test.true c.a-item.is c.loop-a.invariant c.in_ok-x.ensures c.beside-out.ensures
