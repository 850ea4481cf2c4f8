use Rattle.mz_instance_sizes.proofs.BesideLemmas.{told_more_beside}
use Rattle.mz_instance_sizes.proofs.instances.all_beside.Goals as goal

pub loop-x-preserved : goal.loop-x-preserved
loop-x-preserved c = told_more_beside _ _ _ c.in-Some.x.now _ _ c.in-Some.ensures.cases.0 c.beside-out.ensures c.loop-x.invariant
