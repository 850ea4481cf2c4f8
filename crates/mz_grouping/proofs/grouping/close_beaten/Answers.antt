use Rattle.std.proofs.Common.{rules, sym, ◌∙◌}
use Rattle.mz_grouping.proofs.GroupingLemmas.{told_further, told_stands_closed}
use Rattle.mz_grouping.proofs.grouping.close_beaten.Goals as goal

pub loop-o-preserved : goal.loop-o-preserved
loop-o-preserved c =
    told_further c.args.parts.now c.args.k c.args.rank c.args.after c.loop-o.waiting c.pop_replaced.new.self c.in-Some.o c.loop-o.steps.items c.push.new.self.items c.is_behind.result
    (sym c.in-Some.is ∙ c.pop_replaced.ensures.top) c.pop_replaced.ensures.rest c.is_behind.ensures c.in_ok-push.ensures.items c.loop-o.invariant

pub returns-clause-stands : goal.returns-clause-stands
returns-clause-stands c =
    told_stands_closed c.args.parts.now c.args.k c.args.rank c.args.after c.loop-o.waiting c.pop_replaced.new.self c.loop-o.steps.items (search rules) c.pop_replaced.ensures.rest c.loop-o.invariant
