use Rattle.std.proofs.Common.{arith, refl}
use Rattle.std.proofs.lemmas.Result.{err_from_is_err_and}
use Rattle.mz_ground.proofs.LayerLemmas.{told_filled, told_fails, told_next, start_next, ground_as_read}
use Rattle.mz_ground.proofs.ground.ground.Goals as goal

pub returns-in_err-close_layer : goal.returns-in_err-close_layer
returns-in_err-close_layer c =
    let p = err_from_is_err_and c.from_residual-in_err-close_layer.result c.from_residual-in_err-close_layer.ensures.1 in
    rw (p.1, p.2) (told_fails _ _ _ 0 c.in_err-close_layer.field-0.0 (c.in_ok-g.ensures c.args.clauses.now) (omega arith) c.in_err-close_layer.ensures.err)

pub loop-layer-init : goal.loop-layer-init
loop-layer-init c = (told_filled _ _ _ _ 0 (c.in_ok-g.ensures c.args.clauses.now) c.in_ok-close_layer.ensures.ok, refl)

pub returns-in_err-close_layer-2 : goal.returns-in_err-close_layer-2
returns-in_err-close_layer-2 c =
    let p = err_from_is_err_and c.from_residual-in_err-close_layer-2.result c.from_residual-in_err-close_layer-2.ensures.1 in
    rw (p.1, p.2) (told_fails _ _ _ _ c.in_err-close_layer-2.field-0.0 (told_next _ _ _ _ _ _ c.loop-layer.invariant.0 c.loop-layer.invariant.1 c.in_ok-end.ensures.1) (omega (arith, c.loop-layer-test.true)) c.in_err-close_layer-2.ensures.err)

pub loop-layer-preserved : goal.loop-layer-preserved
loop-layer-preserved c = (
  told_filled _ _ _ _ _ (told_next _ _ _ _ _ _ c.loop-layer.invariant.0 c.loop-layer.invariant.1 c.in_ok-end.ensures.1) c.in_ok-close_layer-2.ensures.ok,
  start_next _ _ _ _ _ _ _ _ c.loop-layer.invariant.0 c.in_ok-end.ensures.1 c.in_ok-close_layer-2.ensures.ok c.in_ok-end.ensures.0,
)

pub returns : goal.returns
returns c = ground_as_read _ _ _ _ (omega (arith, c.loop-layer-test.false, c.loop-layer.auto._layer-end)) c.loop-layer.invariant.0
