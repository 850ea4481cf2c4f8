use Rattle.std.proofs.Common.{ap, ◌∙◌}
use Rattle.mz_tree_part.specs.declared.notation.NotationTree.{NotationTree}
use Rattle.mz_notations.proofs.BlockLemmas.{told_ended, told_stopped}
use Rattle.mz_notations.proofs.blocks.take_notations.Goals as goal

pub returns-in-Ok : goal.returns-in-Ok
returns-in-Ok c =
    told_ended c.in_ok-least.least c.args.s.now c.take_parts.new.s c.end.new.s c.args.t.now c.as_slice.result.now c.take_parts.result c.in-Ok.field-0 c.in_ok-least.ensures (c.as_slice.ensures.value ∙ ap (λ (d : NotationTree). d.parts) c.t.view_is) c.take_parts.ensures c.in-Ok.is c.end.ensures

pub returns-in-Err : goal.returns-in-Err
returns-in-Err c =
    told_stopped c.in_ok-least.least c.args.s.now c.take_parts.new.s c.take_parts.new.s c.args.t.now c.as_slice.result.now c.take_parts.result c.in-Err.fault c.in_ok-least.ensures (c.as_slice.ensures.value ∙ ap (λ (d : NotationTree). d.parts) c.t.view_is) c.take_parts.ensures c.in-Err.is
