use Rattle.std.proofs.Common.{arith, refl}
use Rattle.mz_congruence.proofs.ClosingLemmas.{no_entries, progress_through, progress_same, listed_more, clean_from}
use Rattle.mz_congruence.proofs.settle.merge_congruent.Goals as goal
use Rattle.mz_congruence.proofs.settle.merge_congruent.Goals.{then-branch, else-branch}

pub loop-i-init : goal.loop-i-init
loop-i-init c = record {
  state = c.requires.state;
  progress = refl;
  entries = no_entries _ _ c.new-table.ensures;
  listed = λ i a lt at. absurd (omega arith);
}

pub loop-i-preserved : goal.loop-i-preserved
loop-i-preserved c =
    elim c.if-branch.branch [
      | then-branch w ↦ rw w.merged-is (record {
        state = c.in_ok-enter.ensures.state;
        progress = progress_through _ _ _ _ c.loop-i.invariant.progress (rw w.if-branch.true at c.in_ok-enter.ensures.progress);
        entries = c.in_ok-enter.ensures.entries;
        listed = tt;
      })
      | else-branch w ↦ rw w.merged-is (record {
        state = c.in_ok-enter.ensures.state;
        progress = progress_same _ _ _ _ c.loop-i.invariant.progress (rw w.if-branch.false at c.in_ok-enter.ensures.progress);
        entries = c.in_ok-enter.ensures.entries;
        listed = listed_more _ _ _ _ _ _ _ c.loop-i.invariant.listed (rw w.if-branch.false at c.in_ok-enter.ensures.progress) c.in_ok-enter.ensures.grows (rw w.if-branch.false at c.in_ok-enter.ensures.listed);
      })
    ]

pub returns : goal.returns
returns c = record {
  state = c.loop-i.invariant.state;
  progress = c.loop-i.invariant.progress;
  clean = clean_from _ _ _ _ _ (omega arith) c.loop-i.invariant.listed;
}
