use Rattle.mz_defs.proofs.BlockLemmas.{told_ended, told_stopped}
use Rattle.mz_defs.proofs.blocks.take_block.Goals as goal

pub returns-in-Ok : goal.returns-in-Ok
returns-in-Ok g c = told_ended c.in_ok-least.least c.args.s.now c.take_all.new.s c.end.new.s c.args.os.now c.take_all.new.os c.args.t.now c.take_all.result c.in-Ok.field-0 c.in_ok-least.ensures c.take_all.ensures c.in-Ok.is c.end.ensures

pub returns-in-Err : goal.returns-in-Err
returns-in-Err g c =
    told_stopped _ c.in_ok-least.least c.args.s.now c.take_all.new.s _ c.args.os.now c.take_all.new.os _ c.args.t.now c.take_all.result c.in-Err.fault c.in_ok-least.ensures c.take_all.ensures c.in-Err.is
