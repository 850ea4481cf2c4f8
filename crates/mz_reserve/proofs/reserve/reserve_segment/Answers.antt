use Rattle.mz_reserve.proofs.ReserveLemmas.{told_segment}
use Rattle.mz_reserve.proofs.reserve.reserve_segment.Goals as goal

pub returns-in_ok-reserve_all-in-Ok : goal.returns-in_ok-reserve_all-in-Ok
returns-in_ok-reserve_all-in-Ok c =
    told_segment _ _ c.type_of.new.ctx _ _ _ c.args.segment.now c.type_of.result c.in-Ok.ty c.type_of.ensures.reads c.in-Ok.is c.type_of.ensures.same c.in_ok-reserve_all-in-Ok.ensures
