use Rattle.std.proofs.Common.{length}
use Rattle.mz_skeleton.proofs.LetLemmas.{LettingWords}
use Rattle.mz_skeleton.proofs.variables.let_waiting.Given as goal

abbrev pub invariant-loop-w : goal.invariant-loop-w
invariant-loop-w l = LettingWords l.env l.first l.ctx l.block l.rest l.initial.ctx l.initial.block l.words

abbrev pub decreases-loop-w : goal.decreases-loop-w
decreases-loop-w l = length l.rest
