use Rattle.std.proofs.Common.{refl}
use Rattle.mz_fields.proofs.OrderLemmas.{told_ready_turn}
use Rattle.mz_fields.proofs.order.is_ready.Goals as goal

pub loop-k-preserved : goal.loop-k-preserved
loop-k-preserved c = told_ready_turn _ _ _ _ _ _ _ c.loop-k-test.true refl c.in_ok-is_free_of.ensures c.if-not-branch.false c.loop-k.invariant
