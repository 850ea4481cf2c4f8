use Rattle.mz_scheme_items.specs.Parameters.{scope, TakesParameter}
use Rattle.mz_scheme.proofs.LoopLemmas.{told_begun, told_end, told_turn, told_stop}
use Rattle.mz_scheme.proofs.parameters.take_more.Goals as goal

pub loop-next-init : goal.loop-next-init
loop-next-init c = told_begun (TakesParameter c.args.env.now c.args.least) (scope c.args.ctx.now c.args.left.now) c.args.trees.now

pub loop-next-preserved : goal.loop-next-preserved
loop-next-preserved c = told_turn (TakesParameter c.args.env.now c.args.least) _ _ _ _ _ _ _ _ _ c.in-Some.ensures.cases.0 c.take_parameter.ensures c.in-Ok.is c.loop-next.invariant

pub returns-in-Err : goal.returns-in-Err
returns-in-Err c = told_stop _ (TakesParameter c.args.env.now c.args.least) _ _ _ _ _ _ _ _ _ _ c.in-Some.ensures.cases.0 c.take_parameter.ensures c.in-Err.is c.loop-next.invariant

pub returns : goal.returns
returns c = told_end (TakesParameter c.args.env.now c.args.least) _ _ _ _ c.in_default.ensures.cases c.loop-next.invariant
