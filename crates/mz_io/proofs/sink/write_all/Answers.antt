use Rattle.std.proofs.Common.{arith}
use Rattle.mz_io.proofs.SinkLemmas.{with_bytes-more}
use Rattle.mz_io.proofs.sink.write_all.Goals as goal

pub loop-done-preserved : goal.loop-done-preserved
loop-done-preserved g c = record {
  within = omega (arith, c.in_ok-taken.ensures.within);
  took = with_bytes-more _ _ _ _ _ _ c.loop-done.invariant.took c.in_ok-taken.ensures.took;
  never_fall = omega (arith, c.write.ensures.never_fall);
}
