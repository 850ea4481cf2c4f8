use Rattle.std.proofs.Common.{arith}
use Rattle.mz_congruence.proofs.ClosingLemmas.{progress_le, round_falls}
use Rattle.mz_congruence.proofs.settle.saturate.Goals as goal

pub passes-preserved : goal.passes-preserved
passes-preserved c = record {
  state = c.apply_rules-applied.ensures.state;
  less = omega (arith, progress_le _ _ _ c.apply_rules-applied.ensures.progress, c.passes.invariant.less);
  met = c.apply_rules-applied.ensures.met;
}

pub passes-smaller : goal.passes-smaller
passes-smaller c = round_falls _ _ _ _ _ c.passes-test.true (omega arith) c.apply_rules-applied.ensures.progress

pub returns : goal.returns
returns c = record {
  state = c.passes.invariant.state;
  less = c.passes.invariant.less;
  met = rw c.passes-test.false at c.passes.invariant.met;
}
