use Rattle.std.proofs.Common.{arith, refl}
use Rattle.mz_congruence.proofs.ClosingLemmas.{progress_through, progress_same, met_more, met_end}
use Rattle.mz_congruence.proofs.settle.apply_rules.Goals as goal
use Rattle.mz_congruence.proofs.settle.apply_rules.Goals.{then-apply_rule, else-apply_rule}

pub loop-k-init : goal.loop-k-init
loop-k-init c = record {
  state = c.requires.state;
  progress = refl;
  met = λ i r lt at. absurd (omega arith);
}

pub loop-k-preserved : goal.loop-k-preserved
loop-k-preserved c =
    elim c.if-apply_rule.branch [
      | then-apply_rule w ↦ rw w.merged-is (record {
        state = c.apply_rule.ensures.state;
        progress = progress_through _ _ _ _ c.loop-k.invariant.progress (rw w.if-apply_rule.true at c.apply_rule.ensures.progress);
        met = tt;
      })
      | else-apply_rule w ↦ rw w.merged-is (record {
        state = c.apply_rule.ensures.state;
        progress = progress_same _ _ _ _ c.loop-k.invariant.progress (rw w.if-apply_rule.false at c.apply_rule.ensures.progress);
        met = met_more _ _ _ _ _ c.loop-k.invariant.met (rw w.if-apply_rule.false at c.apply_rule.ensures.progress) (rw w.if-apply_rule.false at c.apply_rule.ensures.met);
      })
    ]

pub returns : goal.returns
returns c = record {
  state = c.loop-k.invariant.state;
  progress = c.loop-k.invariant.progress;
  met = met_end _ _ _ _ (omega arith) c.loop-k.invariant.met;
}
