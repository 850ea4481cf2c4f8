use Rattle.mz_registering.proofs.HeadingLemmas.{told_stopped, told_item}
use Rattle.mz_registering.proofs.heading.take_item.Goals as goal

pub returns-in-Err : goal.returns-in-Err
returns-in-Err g c =
    told_stopped _ c.args.least c.args.count c.args.s.now c.take_owed.new.s c.args.x c.args.ws.now c.args.behind _ _ _ c.args.os.now c.take_owed.new.os c.take_owed.new.os c.take_owed.result c.in-Err.fault c.in_ok-owed.ensures c.take_owed.ensures.takes c.in-Err.is

pub returns-in-Ok : goal.returns-in-Ok
returns-in-Ok g c =
    told_item c.args.least c.args.count c.args.s.now c.take_owed.new.s c.end_item.new.s c.args.x c.args.ws.now c.args.behind _ _ _ c.args.os.now c.take_owed.new.os c.take_owed.result c.in-Ok.field-0 c.end_item.result c.in_ok-owed.ensures c.take_owed.ensures.takes c.in-Ok.is c.in-Ok.ensures.same c.end_item.ensures
