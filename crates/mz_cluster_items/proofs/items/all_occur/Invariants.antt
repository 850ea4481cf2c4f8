use Rattle.std.proofs.Common.{◌≡◌}
use Rattle.mz_cluster_items.specs.Items.{all_occur}
use Rattle.mz_cluster_items.proofs.items.all_occur.Given as goal

abbrev pub invariant-loop-k : goal.invariant-loop-k
invariant-loop-k l = all_occur l.least l.k l.x ≡ all_occur l.least l.count l.x

abbrev pub decreases-loop-k : goal.decreases-loop-k
decreases-loop-k l = l.k
