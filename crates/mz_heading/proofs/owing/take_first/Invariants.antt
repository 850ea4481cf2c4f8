use Rattle.std.proofs.Common.{◌≡◌, length}
use Rattle.mz_taken.proofs.OneByOneProofs.{Reading}
use Rattle.mz_conditions.specs.Conditions.{asked, TakesCondition}
use Rattle.mz_defined.specs.Owing.{conditions_in, further_in}
use Rattle.mz_heading.proofs.owing.take_first.Given as goal

abbrev pub invariant-loop-w : goal.invariant-loop-w
invariant-loop-w g l =
    (so_far : Reading (TakesCondition l.walker.env.now l.walker.at l.initial.ctx l.least l.count l.x) (asked l.owed l.left) l.os (conditions_in l.rest) (asked l.initial.owed l.initial.left) l.initial.os (conditions_in l.ws)) ×
    (l.ctx ≡ l.initial.ctx) × (further_in l.rest ≡ further_in l.ws)

abbrev pub decreases-loop-w : goal.decreases-loop-w
decreases-loop-w g l = length l.rest
