use Rattle.mz_instance_sizes.proofs.BesideLemmas.{told_more_of}
use Rattle.mz_instance_sizes.proofs.statements.adjectives_within.Goals as goal

pub loop-a-preserved : goal.loop-a-preserved
loop-a-preserved c = told_more_of _ _ _ _ _ _ _ _ c.loop-a-test.true c.a-item.is c.loop-a.invariant c.adjective_within.ensures c.beside-out.ensures
