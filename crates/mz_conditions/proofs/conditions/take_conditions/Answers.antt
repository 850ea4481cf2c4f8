use Rattle.std.proofs.Common.{refl}
use Rattle.mz_taken.proofs.OneByOneProofs.{told_begun, told_end}
use Rattle.mz_conditions.specs.Conditions.{asked, TakesCondition}
use Rattle.mz_conditions.proofs.ConditionLemmas.{same_there, told_condition_turn, told_condition_stop}
use Rattle.mz_conditions.proofs.conditions.take_conditions.Goals as goal

pub loop-tree-init : goal.loop-tree-init
loop-tree-init g c = (
  told_begun (TakesCondition c.args.walker.env.now c.args.walker.at c.args.ctx.now c.args.least c.args.count c.args.x.now) (asked c.args.owed.now c.args.left.now) c.args.os.now c.args.trees.now,
  refl,
)

pub loop-tree-preserved : goal.loop-tree-preserved
loop-tree-preserved g c = (
  told_condition_turn _ _ _ _ _ _ _ _ _ _ _ _ _ _ _ _ _ _ _ _ _ _ c.in-Some.ensures.cases.0 c.loop-tree.invariant.1 c.take_condition.ensures.takes c.in-Ok.is c.loop-tree.invariant.0,
  same_there _ _ _ _ _ c.take_condition.ensures.same c.in-Ok.is c.loop-tree.invariant.1,
)

pub returns-in-Err-clause-takes : goal.returns-in-Err-clause-takes
returns-in-Err-clause-takes g c =
    told_condition_stop _ _ _ _ _ _ _ _ _ _ _ _ _ _ _ _ _ _ _ _ _ _ _ _ _ _ c.in-Some.ensures.cases.0 c.loop-tree.invariant.1 c.take_condition.ensures.takes c.in-Err.is c.loop-tree.invariant.0

pub returns-clause-takes : goal.returns-clause-takes
returns-clause-takes g c =
    told_end (TakesCondition c.args.walker.env.now c.args.walker.at c.args.ctx.now c.args.least c.args.count c.args.x.now) (asked c.loop-tree.owed c.loop-tree.left) _ c.loop-tree.os _ c.loop-tree.rest.now c.args.trees.now c.in_default.ensures.cases c.loop-tree.invariant.0
