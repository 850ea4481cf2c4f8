use Rattle.std.proofs.Common.{sym, ◌∙◌, length}
use Rattle.mz_grouping.proofs.GroupingLemmas.{told_one_closed}
use Rattle.mz_grouping.proofs.grouping.close_all.Goals as goal

pub loop-o-preserved : goal.loop-o-preserved
loop-o-preserved c =
    told_one_closed c.args.parts.now (length c.args.parts.now) c.loop-o.waiting c.pop.new.self c.in-Some.o c.loop-o.steps.items c.push.new.self.items c.is_behind.result
    (sym c.in-Some.is ∙ c.pop.ensures.top) c.pop.ensures.rest c.is_behind.ensures c.in_ok-push.ensures.items c.loop-o.invariant
