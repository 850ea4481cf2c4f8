use Rattle.std.proofs.Common.{refl}
use Rattle.mz_taken.proofs.OneByOneProofs.{told_begun}
use Rattle.mz_conditions.specs.Conditions.{asked, TakesCondition}
use Rattle.mz_defined.specs.Owing.{conditions_in}
use Rattle.mz_heading.proofs.OwingLemmas.{same_there, told_first_turn, told_first_stop, further_there, told_at_property, further_at_property, told_at_end, further_at_end}
use Rattle.mz_heading.proofs.owing.take_first.Goals as goal

pub loop-w-init : goal.loop-w-init
loop-w-init g c = (
  told_begun (TakesCondition c.args.walker.env.now c.args.walker.at c.args.ctx.now c.args.least c.args.count c.args.x.now) (asked c.args.owed.now c.args.left.now) c.args.os.now (conditions_in c.args.ws.now),
  refl,
  refl,
)

pub loop-w-preserved : goal.loop-w-preserved
loop-w-preserved g c = (
  told_first_turn _ _ _ _ _ _ _ _ _ _ _ _ _ _ _ c.loop-w.rest.now c.in-Some.others.now c.args.ws.now _ _ c.in-Some.ensures.cases.0 c.in-Condition.is c.loop-w.invariant.1 c.take_condition.ensures.takes c.in-Ok.is c.loop-w.invariant.0,
  same_there _ _ _ _ _ c.take_condition.ensures.same c.in-Ok.is c.loop-w.invariant.1,
  further_there c.loop-w.rest.now c.in-Some.others.now c.args.ws.now _ _ c.in-Some.ensures.cases.0 c.in-Condition.is c.loop-w.invariant.2,
)

pub returns-in-Err-clause-takes : goal.returns-in-Err-clause-takes
returns-in-Err-clause-takes g c =
    told_first_stop _ _ _ _ _ _ _ _ _ _ _ _ _ _ _ _ _ _ c.loop-w.rest.now c.in-Some.others.now c.args.ws.now _ _ c.in-Some.ensures.cases.0 c.in-Condition.is c.loop-w.invariant.1 c.take_condition.ensures.takes c.in-Err.is c.loop-w.invariant.0

pub returns-in-Property-clause-takes : goal.returns-in-Property-clause-takes
returns-in-Property-clause-takes g c =
    told_at_property c.args.walker.env.now c.args.walker.at c.args.ctx.now c.args.least c.args.count c.args.x.now (asked c.loop-w.owed c.loop-w.left) _ c.loop-w.os _ _ _ c.loop-w.rest.now c.in-Some.others.now c.args.ws.now c.in-Some.ensures.cases.0 c.in-Property.is c.loop-w.invariant.0

pub returns-in-Property-clause-same : goal.returns-in-Property-clause-same
returns-in-Property-clause-same g c = c.loop-w.invariant.1

pub returns-in-Property-clause-further : goal.returns-in-Property-clause-further
returns-in-Property-clause-further g c = further_at_property c.loop-w.rest.now c.in-Some.others.now c.args.ws.now _ _ c.in-Some.ensures.cases.0 c.in-Property.is c.loop-w.invariant.2

pub returns-clause-takes : goal.returns-clause-takes
returns-clause-takes g c =
    told_at_end c.args.walker.env.now c.args.walker.at c.args.ctx.now c.args.least c.args.count c.args.x.now (asked c.loop-w.owed c.loop-w.left) _ c.loop-w.os _ c.loop-w.rest.now c.args.ws.now c.in_default.ensures.cases c.loop-w.invariant.0

pub returns-clause-same : goal.returns-clause-same
returns-clause-same g c = c.loop-w.invariant.1

pub returns-clause-further : goal.returns-clause-further
returns-clause-further g c = further_at_end c.loop-w.rest.now c.args.ws.now c.in_default.ensures.cases c.loop-w.invariant.2
