use Rattle.mz_clusters.proofs.ClusterLemmas.{told_all_read, told_all_refused}
use Rattle.mz_clusters.proofs.clusters.read_all.Goals as goal

pub returns-in-Ok : goal.returns-in-Ok
returns-in-Ok c = told_all_read _ _ _ _ _ _ _ _ _ _ _ _ _ _ _ _ _ c.first.ensures c.read_one.ensures c.in-Ok.is c.more.ensures c.read_each.ensures

pub returns-in-Err : goal.returns-in-Err
returns-in-Err c = told_all_refused _ _ _ _ _ _ _ _ _ _ _ _ _ _ _ c.first.ensures c.read_one.ensures c.in-Err.is
