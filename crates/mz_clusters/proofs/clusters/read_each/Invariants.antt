use Rattle.std.proofs.Common.{length}
use Rattle.mz_clusters.proofs.ClusterLemmas.{Gives}
use Rattle.mz_clusters.proofs.clusters.read_each.Given as goal

abbrev pub invariant-loop-node : goal.invariant-loop-node
invariant-loop-node l = Gives l.env l.ctx l.least l.wanted l.subject l.left l.rest l.out l.initial.left l.nodes l.initial.out

abbrev pub decreases-loop-node : goal.decreases-loop-node
decreases-loop-node l = length l.rest
