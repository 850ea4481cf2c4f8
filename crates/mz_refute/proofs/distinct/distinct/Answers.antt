use Rattle.std.proofs.Common.{arith}
use Rattle.mz_refute.proofs.DistinctLemmas.{noted_none, noted_all}
use Rattle.mz_refute.proofs.distinct.distinct.Goals as goal

pub loop-n-init : goal.loop-n-init
loop-n-init c = noted_none c.new-out.result.items c.new-seen.result c.new-out.ensures.items c.new-seen.ensures.empty

pub returns : goal.returns
returns c = noted_all c.args.numbers.now c.loop-n.out.items c.loop-n.seen c.loop-n.n-index (omega (arith, c.loop-n-test.false)) c.loop-n.invariant
