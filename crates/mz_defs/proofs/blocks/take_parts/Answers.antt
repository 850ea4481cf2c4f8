use Rattle.mz_taken.proofs.OneByOneProofs.{told_begun}
use Rattle.mz_define.specs.Defines.{with_places, TakesPart}
use Rattle.mz_defs.proofs.BlockLemmas.{told_part_turn, told_part_stop, told_parts_end}
use Rattle.mz_defs.proofs.blocks.take_parts.Goals as goal

pub loop-part-init : goal.loop-part-init
loop-part-init g c = told_begun (TakesPart c.args.least) c.args.s.now c.args.os.now (with_places c.args.end c.args.parts.now)

pub loop-part-preserved : goal.loop-part-preserved
loop-part-preserved g c =
    told_part_turn c.args.least c.loop-part.s c.take_part.new.s _ c.loop-part.os c.take_part.new.os _ c.args.end c.first_of_parts-behind.result c.in-Some.part.now c.loop-part.rest.now c.in-Some.others.now c.args.parts.now c.take_part.result c.in-Ok.field-0 c.in-Some.ensures.cases.0 c.first_of_parts-behind.ensures
    c.take_part.ensures c.in-Ok.is c.loop-part.invariant

pub returns-in-Err : goal.returns-in-Err
returns-in-Err g c =
    told_part_stop _ c.args.least c.loop-part.s c.take_part.new.s _ _ c.loop-part.os c.take_part.new.os _ _ c.args.end c.first_of_parts-behind.result c.in-Some.part.now c.loop-part.rest.now c.in-Some.others.now c.args.parts.now c.take_part.result c.in-Err.fault c.in-Some.ensures.cases.0
    c.first_of_parts-behind.ensures c.take_part.ensures c.in-Err.is c.loop-part.invariant

pub returns : goal.returns
returns g c = told_parts_end c.args.least c.loop-part.s _ c.loop-part.os _ c.args.end c.loop-part.rest.now c.args.parts.now c.in_default.ensures.cases c.loop-part.invariant
