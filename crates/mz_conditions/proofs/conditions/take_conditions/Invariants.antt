use Rattle.std.proofs.Common.{◌≡◌, length}
use Rattle.mz_taken.proofs.OneByOneProofs.{Reading}
use Rattle.mz_conditions.specs.Conditions.{asked, TakesCondition}
use Rattle.mz_conditions.proofs.conditions.take_conditions.Given as goal

abbrev pub invariant-loop-tree : goal.invariant-loop-tree
invariant-loop-tree g l =
    (so_far : Reading (TakesCondition l.walker.env.now l.walker.at l.initial.ctx l.least l.count l.x) (asked l.owed l.left) l.os l.rest (asked l.initial.owed l.initial.left) l.initial.os l.trees) ×
    (l.ctx ≡ l.initial.ctx)

abbrev pub decreases-loop-tree : goal.decreases-loop-tree
decreases-loop-tree g l = length l.rest
