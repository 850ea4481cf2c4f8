use Rattle.std.proofs.Common.{◌<◌, ◌≤◌, length, arith, rules}
use Rattle.mz_ground.proofs.ExpressionLemmas.{told_literal_step, told_literals}
use Rattle.mz_ground.proofs.ground_part.Ground.add_literals.Goals as goal

pub loop-item-preserved : goal.loop-item-preserved
loop-item-preserved c =
    let lt : c.loop-item.item-index < length c.deref-item-items.result.now = omega arith in
    told_literal_step _ _ _ _ _ _ _ c.loop-item.invariant c.item-item.is lt c.in_ok-add_literal.ensures

pub returns : goal.returns
returns c =
    let le : length c.deref-item-items.result.now ≤ c.loop-item.item-index = omega arith in
    told_literals _ _ _ c.deref-item-items.result.now c.args.ls.now c.loop-item.item-index c.loop-item.invariant (search (rules, c.ls.view_is, c.deref-item-items.ensures.value)) le
