use Rattle.std.proofs.Common.{◌<◌, length, arith}
use Rattle.mz_nf.proofs.CountLemmas.{told_step}
use Rattle.mz_nf.proofs.count.count_all.Goals as goal

pub loop-f-preserved : goal.loop-f-preserved
loop-f-preserved c =
    let lt : c.loop-f.f-index < length c.deref-f-items.result.now = omega arith in
    told_step _ _ _ _ _ _ c.capped_product-total.ensures c.loop-f.invariant c.count.ensures c.f-item.is lt
