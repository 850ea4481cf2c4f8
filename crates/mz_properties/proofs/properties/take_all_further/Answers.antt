use Rattle.mz_taken.proofs.OneByOneProofs.{told_begun, told_turn, told_stop, told_end}
use Rattle.mz_properties.specs.Properties.{TakesFurther}
use Rattle.mz_properties.proofs.properties.take_all_further.Goals as goal

pub loop-w-init : goal.loop-w-init
loop-w-init g c = told_begun (TakesFurther c.args.least c.args.count c.args.x.now c.args.owed.now) c.args.s.now c.args.os.now c.args.ws.now

pub loop-w-preserved : goal.loop-w-preserved
loop-w-preserved g c =
    told_turn (TakesFurther c.args.least c.args.count c.args.x.now c.args.owed.now) c.loop-w.s c.take_further.new.s c.args.s.now c.loop-w.os c.take_further.new.os c.args.os.now c.in-Some.w.now c.loop-w.rest.now c.in-Some.others.now c.args.ws.now c.take_further.result c.in-Ok.field-0 c.in-Some.ensures.cases.0
    c.take_further.ensures c.in-Ok.is c.loop-w.invariant

pub returns-in-Err : goal.returns-in-Err
returns-in-Err g c =
    told_stop _ (TakesFurther c.args.least c.args.count c.args.x.now c.args.owed.now) c.loop-w.s c.take_further.new.s _ c.args.s.now c.loop-w.os c.take_further.new.os c.args.os.now _ c.in-Some.w.now c.loop-w.rest.now c.in-Some.others.now c.args.ws.now c.take_further.result c.in-Err.fault c.in-Some.ensures.cases.0
    c.take_further.ensures c.in-Err.is c.loop-w.invariant

pub returns : goal.returns
returns g c = told_end (TakesFurther c.args.least c.args.count c.args.x.now c.args.owed.now) c.loop-w.s c.args.s.now c.loop-w.os c.args.os.now c.loop-w.rest.now c.args.ws.now c.in_default.ensures.cases c.loop-w.invariant
