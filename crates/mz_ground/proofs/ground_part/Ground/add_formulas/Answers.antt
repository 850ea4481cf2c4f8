use Rattle.std.proofs.Common.{◌<◌, ◌≤◌, length, arith, rules}
use Rattle.mz_ground.proofs.ExpressionLemmas.{told_formula_step, told_formulas}
use Rattle.mz_ground.proofs.ground_part.Ground.add_formulas.Goals as goal

pub loop-f-preserved : goal.loop-f-preserved
loop-f-preserved c =
    let lt : c.loop-f.f-index < length c.deref-f-items.result.now = omega arith in
    told_formula_step _ _ _ _ _ _ c.loop-f.invariant c.f-item.is lt c.in_ok-add_formula.ensures

pub returns : goal.returns
returns c =
    let le : length c.deref-f-items.result.now ≤ c.loop-f.f-index = omega arith in
    told_formulas _ _ c.deref-f-items.result.now c.args.fs.now c.loop-f.f-index c.loop-f.invariant (search (rules, c.fs.view_is, c.deref-f-items.ensures.value)) le
