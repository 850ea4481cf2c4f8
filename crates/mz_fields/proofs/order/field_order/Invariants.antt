use Rattle.std.proofs.Common.{◌≡◌, length}
use Rattle.mz_fields.specs.Order.{order_from, field_order}
use Rattle.mz_fields.proofs.order.field_order.Given as goal

abbrev pub invariant-loop-left : goal.invariant-loop-left
invariant-loop-left l = (order_from l.left l.y l.tys l.taken ≡ field_order l.y l.tys) × (l.count ≡ length l.tys)

abbrev pub decreases-loop-left : goal.decreases-loop-left
decreases-loop-left l = l.left
