use Rattle.std.proofs.Common.{◌-◌, refl}
use Rattle.mz_context.proofs.RoundLemmas.{append-told_turn}
use Rattle.mz_context.proofs.gather.reached.Goals as goal

pub more-preserved : goal.more-preserved
more-preserved c =
    append-told_turn c.args.constants.now c.more.left (c.more.left - 1) c.in_ok-count.count c.more.met.items c.round.new.met.items c.more.last.items c.in_ok-last-2.last.items _
    (c.is_done.ensures.more c.more-test.true) refl c.in_ok-count.ensures c.in_ok-last-2.ensures.met c.in_ok-last-2.ensures.new_ones c.more.invariant
