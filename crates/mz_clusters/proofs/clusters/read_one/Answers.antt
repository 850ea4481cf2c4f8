use Rattle.mz_clusters.proofs.ClusterLemmas.{told_one}
use Rattle.mz_clusters.proofs.clusters.read_one.Goals as goal

pub returns-in_ok-push-in-Ok : goal.returns-in_ok-push-in-Ok
returns-in_ok-push-in-Ok c = told_one _ _ _ _ _ _ _ _ _ _ _ _ c.read_counted.ensures c.in-Ok.is c.in_ok-push-in-Ok.ensures.ok
