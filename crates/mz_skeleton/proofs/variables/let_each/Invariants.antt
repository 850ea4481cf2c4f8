use Rattle.std.proofs.Common.{length}
use Rattle.mz_walk.specs.Walked.{state}
use Rattle.mz_walk.specs.Skeleton.{letting}
use Rattle.mz_skeleton.proofs.LetLemmas.{LettingAll}
use Rattle.mz_skeleton.proofs.variables.let_each.Given as goal

abbrev pub invariant-loop-next : goal.invariant-loop-next
invariant-loop-next l = LettingAll l.env l.first (letting (state l.ctx l.block l.left) l.waiting.items) l.rest (letting (state l.initial.ctx l.initial.block l.initial.left) l.initial.waiting.items) l.nodes

abbrev pub decreases-loop-next : goal.decreases-loop-next
decreases-loop-next l = length l.rest
