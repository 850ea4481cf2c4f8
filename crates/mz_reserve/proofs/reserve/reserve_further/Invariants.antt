use Rattle.std.proofs.Common.{length}
use Rattle.mz_reserve.proofs.ReserveLemmas.{Reserving}
use Rattle.mz_reserve.proofs.reserve.reserve_further.Given as goal

abbrev pub invariant-loop-next : goal.invariant-loop-next
invariant-loop-next l = Reserving l.env l.ctx l.left l.rest l.fn.ctx l.fn.left l.segments

abbrev pub decreases-loop-next : goal.decreases-loop-next
decreases-loop-next l = length l.rest
