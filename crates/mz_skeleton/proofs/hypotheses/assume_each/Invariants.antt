use Rattle.std.proofs.Common.{length}
use Rattle.mz_walk.specs.Walked.{state}
use Rattle.mz_walk.specs.Skeleton.{assuming}
use Rattle.mz_skeleton.proofs.AssumeLemmas.{AssumingAll}
use Rattle.mz_skeleton.proofs.hypotheses.assume_each.Given as goal

abbrev pub invariant-loop-next : goal.invariant-loop-next
invariant-loop-next l = AssumingAll l.env l.first (assuming (state l.ctx l.block l.left) l.stated) l.rest (assuming (state l.initial.ctx l.initial.block l.initial.left) l.initial.stated) l.trees

abbrev pub decreases-loop-next : goal.decreases-loop-next
decreases-loop-next l = length l.rest
