use Rattle.std.proofs.Common.{◌∙◌, ◌-◌, refl}
use Rattle.mz_now.proofs.StatedLemmas.{told_part_beyond}
use Rattle.mz_now.proofs.stated.stated_by.Goals as goal

pub returns-in-None : goal.returns-in-None
returns-in-None c =
    told_part_beyond c.args.parts.now c.as_slice-ps.result.now c.loop-i.i (c.loop-i.i - 1) c.index-ps-i.result c.loop-i.ss c.in_ok-ts.field-0
    (c.as_slice-ps.ensures.value ∙ c.parts.view_is) refl c.loop-i-test.true c.loop-i.invariant.0 c.index-ps-i.is c.loop-i.invariant.1 c.in_ok-ts.ensures c.in-None.is
