use Rattle.std.proofs.Common.{◌≡◌, length}
use Rattle.mz_walk.specs.Introductions.{spent_for}
use Rattle.mz_performing.proofs.introductions.spend_each.Given as goal

abbrev pub invariant-loop-s : goal.invariant-loop-s
invariant-loop-s l = spent_for l.rest l.left ≡ spent_for l.ss l.initial.left

abbrev pub decreases-loop-s : goal.decreases-loop-s
decreases-loop-s l = length l.rest
