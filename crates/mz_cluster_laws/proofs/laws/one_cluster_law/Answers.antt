use Rattle.mz_cluster_laws.proofs.OneCluster.{one_cluster}
use Rattle.mz_cluster_laws.proofs.laws.one_cluster_law.Goals as goal

pub returns : goal.returns
returns c = one_cluster
