use Rattle.mz_taken.proofs.OneByOneProofs.{told_begun}
use Rattle.mz_registered.specs.Blocks.{with_places, TakesPart}
use Rattle.mz_registering.proofs.BlockLemmas.{told_turn, told_stop, told_end}
use Rattle.mz_registering.proofs.block.take_parts.Goals as goal

pub loop-p-init : goal.loop-p-init
loop-p-init g c = told_begun (TakesPart c.args.least) c.args.s.now c.args.os.now (with_places c.args.end c.args.ps.now)

pub loop-p-preserved : goal.loop-p-preserved
loop-p-preserved g c =
    told_turn c.args.least c.loop-p.s c.take_part.new.s _ c.loop-p.os c.take_part.new.os _ c.args.end c.first_of_parts-behind.result c.in-Some.p.now c.loop-p.rest.now c.in-Some.others.now c.args.ps.now c.take_part.result c.in-Ok.field-0 c.in-Some.ensures.cases.0 c.first_of_parts-behind.ensures c.take_part.ensures c.in-Ok.is c.loop-p.invariant

pub returns-in-Err : goal.returns-in-Err
returns-in-Err g c =
    told_stop _ c.args.least c.loop-p.s c.take_part.new.s _ _ c.loop-p.os c.take_part.new.os _ _ c.args.end c.first_of_parts-behind.result c.in-Some.p.now c.loop-p.rest.now c.in-Some.others.now c.args.ps.now c.take_part.result c.in-Err.fault c.in-Some.ensures.cases.0 c.first_of_parts-behind.ensures c.take_part.ensures c.in-Err.is c.loop-p.invariant

pub returns : goal.returns
returns g c = told_end c.args.least c.loop-p.s _ c.loop-p.os _ c.args.end c.loop-p.rest.now c.args.ps.now c.in_default.ensures.cases c.loop-p.invariant
