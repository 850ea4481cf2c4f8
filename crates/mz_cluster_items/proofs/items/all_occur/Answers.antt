use Rattle.std.proofs.Common.{refl, ◌-◌}
use Rattle.mz_cluster_items.proofs.ItemLemmas.{told_occurs}
use Rattle.mz_cluster_items.proofs.items.all_occur.Goals as goal

pub loop-k-preserved : goal.loop-k-preserved
loop-k-preserved c = told_occurs c.args.least c.loop-k.k (c.loop-k.k - 1) c.args.x.now c.in_ok-there.there _ c.loop-k-test.true refl c.in_ok-there.ensures c.if-not-there.false c.loop-k.invariant
