use Rattle.mz_congruence.proofs.PairLemmas.{pairs_nil}
use Rattle.mz_congruence.proofs.pairs_of.pairs_of.Goals as goal

pub loop-k-init : goal.loop-k-init
loop-k-init c = rw c.new-out.ensures (pairs_nil _ _)
