use Rattle.mz_cluster_laws.proofs.UsableClusters.{cluster_law}
use Rattle.mz_cluster_laws.proofs.laws.cluster_law.Goals as goal

pub returns : goal.returns
returns c = cluster_law
