use Rattle.std.proofs.Common.{arith}
use Rattle.mz_congruence.proofs.ClosingLemmas.{exact_from, done_merged, round_falls}
use Rattle.mz_congruence.proofs.settle.settle.Goals as goal

pub rounds-preserved : goal.rounds-preserved
rounds-preserved c = record {
  state = c.in_ok-congruent.ensures.state;
  done = done_merged _ _ _ _ c.in_ok-congruent.ensures.progress c.in_ok-congruent.ensures.clean c.saturate.ensures.met;
}

pub rounds-smaller : goal.rounds-smaller
rounds-smaller c = round_falls _ _ _ _ _ c.rounds-test.true (omega (arith, c.flatten.ensures.less, c.saturate.ensures.less)) c.in_ok-congruent.ensures.progress

pub returns : goal.returns
returns c = exact_from _ _ _ _ c.rounds-test.false c.rounds.invariant.state c.rounds.invariant.done c.flatten-2.ensures.len c.flatten-2.ensures.descends c.flatten-2.ensures.flat c.flatten-2.ensures.roots
