use Rattle.mz_reserve.proofs.ReserveLemmas.{told_turn, told_stop}
use Rattle.mz_reserve.proofs.reserve.reserve_further.Goals as goal

pub loop-next-preserved : goal.loop-next-preserved
loop-next-preserved c =
    told_turn _ c.loop-next.ctx c.reserve_segment.new.ctx _ c.loop-next.left c.reserve_segment.new.left _ c.in-Some.next.now c.loop-next.rest.now c.in-Some.others.now c.args.segments.now c.reserve_segment.result c.in-Ok.field-0 c.in-Some.ensures.cases.0 c.reserve_segment.ensures c.in-Ok.is c.loop-next.invariant

pub returns-in-Err : goal.returns-in-Err
returns-in-Err c =
    told_stop _ c.loop-next.ctx c.reserve_segment.new.ctx _ c.loop-next.left c.reserve_segment.new.left _ c.in-Some.next.now c.loop-next.rest.now c.in-Some.others.now c.args.segments.now c.reserve_segment.result c.in-Err.fault c.in-Some.ensures.cases.0 c.reserve_segment.ensures c.in-Err.is c.loop-next.invariant
