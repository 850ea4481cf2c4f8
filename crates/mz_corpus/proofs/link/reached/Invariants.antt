use Rattle.std.proofs.Common.{◌+◌, ◌-◌, ◌≤◌, length}
use Rattle.std.specs.Prelude.{map}
use Rattle.mz_corpus.proofs.OrderLemmas.{left_count}
use Rattle.mz_corpus.proofs.ReachLemmas.{HasReached}
use Rattle.mz_corpus.proofs.link.reached.Given as goal

abbrev pub invariant-loop-at : goal.invariant-loop-at
invariant-loop-at l = HasReached l.links l.fn.direct l.set l.at

abbrev pub decreases-loop-at : goal.decreases-loop-at
decreases-loop-at l = left_count (map (λ k. k.name) l.initial.links) l.set + length l.set - l.at
