use Rattle.mz_clusters.proofs.ClusterLemmas.{told_each_stop, told_each_turn}
use Rattle.mz_clusters.proofs.clusters.read_each.Goals as goal

pub loop-node-preserved : goal.loop-node-preserved
loop-node-preserved c = told_each_turn _ _ _ _ _ _ _ _ _ _ _ _ _ _ _ _ _ c.in-Some.ensures.cases.0 c.read_one.ensures c.in-Ok.is c.loop-node.invariant

pub returns-in-Err : goal.returns-in-Err
returns-in-Err c = told_each_stop _ _ _ _ _ _ _ _ _ _ _ _ _ _ _ _ _ _ c.in-Some.ensures.cases.0 c.read_one.ensures c.in-Err.is c.loop-node.invariant
