use Rattle.mz_now.proofs.StatedLemmas.{Replaced}
use Rattle.mz_now.proofs.stated.all_replaced.Given as goal

abbrev pub invariant-loop-s : goal.invariant-loop-s
invariant-loop-s l = Replaced l.p l.s-items l.s-index l.out
