use Rattle.mz_notations.proofs.BlockLemmas.{noting_begun, noting_turn, noting_stop, noting_end}
use Rattle.mz_notations.proofs.blocks.take_parts.Goals as goal

pub loop-part-init : goal.loop-part-init
loop-part-init c = noting_begun c.args.least c.args.s.now c.args.parts.now

pub loop-part-preserved : goal.loop-part-preserved
loop-part-preserved c =
    noting_turn c.args.least c.loop-part.s c.take_part.new.s _ c.in-Some.part.now c.loop-part.rest.now c.in-Some.others.now c.args.parts.now c.take_part.result c.in-Ok.field-0 c.in-Some.ensures.cases.0 c.take_part.ensures c.in-Ok.is c.loop-part.invariant

pub returns-in-Err : goal.returns-in-Err
returns-in-Err c =
    noting_stop _ c.args.least c.loop-part.s c.take_part.new.s _ _ c.in-Some.part.now c.loop-part.rest.now c.in-Some.others.now c.args.parts.now c.take_part.result c.in-Err.fault c.in-Some.ensures.cases.0 c.take_part.ensures c.in-Err.is c.loop-part.invariant

pub returns : goal.returns
returns c = noting_end c.args.least c.loop-part.s _ c.loop-part.rest.now c.args.parts.now c.in_default.ensures.cases c.loop-part.invariant
