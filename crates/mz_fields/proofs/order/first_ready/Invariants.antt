use Rattle.std.proofs.Common.{◌≡◌, length}
use Rattle.mz_fields.specs.Order.{first_ready}
use Rattle.mz_fields.proofs.order.first_ready.Given as goal

abbrev pub invariant-loop-ty : goal.invariant-loop-ty
invariant-loop-ty l = first_ready l.y l.count l.taken l.place l.rest ≡ first_ready l.y l.count l.taken 0 l.tys

abbrev pub decreases-loop-ty : goal.decreases-loop-ty
decreases-loop-ty l = length l.rest
