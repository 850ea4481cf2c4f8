use Rattle.mz_base.proofs.NameLemmas.{fill_more}
use Rattle.mz_base.proofs.name.raised_and_filled.Goals as goal

pub loop-i-preserved : goal.loop-i-preserved
loop-i-preserved c =
    let more = fill_more _ _ _ _ c.loop-i-test.true c.requires c.loop-i.invariant.done c.loop-i.invariant.left c.raised_byte.ensures in
    record { done = more.0; left = more.1 }
