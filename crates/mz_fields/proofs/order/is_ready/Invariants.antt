use Rattle.std.proofs.Common.{◌≡◌}
use Rattle.mz_fields.specs.Order.{is_ready}
use Rattle.mz_fields.proofs.order.is_ready.Given as goal

abbrev pub invariant-loop-k : goal.invariant-loop-k
invariant-loop-k l = is_ready l.y l.k l.taken l.ty ≡ is_ready l.y l.count l.taken l.ty

abbrev pub decreases-loop-k : goal.decreases-loop-k
decreases-loop-k l = l.k
