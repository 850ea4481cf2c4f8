use Rattle.std.proofs.Common.{refl, arith}
use Rattle.mz_grouping.proofs.GroupingLemmas.{told_ready_at, told_counted, told_whole_past}
use Rattle.mz_grouping.proofs.grouping.grouped.Goals as goal

pub loop-k-init : goal.loop-k-init
loop-k-init c = told_ready_at c.args.parts.now 0 c.new-waiting.result c.new-steps.result.items refl c.new-waiting.ensures c.new-steps.ensures.items c.requires

pub loop-k-preserved : goal.loop-k-preserved
loop-k-preserved c = told_counted c.args.parts.now c.loop-k.k c.put_part.new.waiting c.put_part.new.steps.items c.in_ok-put_part.ensures

pub close_all-requires : goal.close_all-requires
close_all-requires c = told_whole_past c.args.parts.now c.loop-k.k c.loop-k.waiting c.loop-k.steps.items (omega (arith, c.loop-k-test.false)) c.loop-k.invariant
