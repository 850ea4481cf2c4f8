use Rattle.std.proofs.Common.{◌+◌, ◌*◌, length}
use Rattle.mz_pproof.proofs.Cases.{SupposesSoFar}
use Rattle.mz_pproof.proofs.StepLists.{StepsSoFar}
use Rattle.mz_pproof.proofs.reasonings.+reasonings.Given as goal

abbrev pub decreases-block : goal.decreases-block
decreases-block l = 32 * l.room + 0

abbrev pub decreases-justification : goal.decreases-justification
decreases-justification l = 32 * l.room + 1

abbrev pub decreases-stated : goal.decreases-stated
decreases-stated l = 32 * l.room + 2

abbrev pub decreases-compact : goal.decreases-compact
decreases-compact l = 32 * l.room + 3

abbrev pub decreases-now_statement : goal.decreases-now_statement
decreases-now_statement l = 32 * l.room + 3

abbrev pub decreases-hereby : goal.decreases-hereby
decreases-hereby l = 32 * l.room + 3

abbrev pub decreases-linked : goal.decreases-linked
decreases-linked l = 32 * l.room + 4

abbrev pub decreases-labelled : goal.decreases-labelled
decreases-labelled l = 32 * l.room + 4

abbrev pub decreases-statement : goal.decreases-statement
decreases-statement l = 32 * l.room + 5

abbrev pub decreases-conclusion : goal.decreases-conclusion
decreases-conclusion l = 32 * l.room + 5

abbrev pub decreases-step : goal.decreases-step
decreases-step l = 32 * l.room + 6

abbrev pub decreases-suppose : goal.decreases-suppose
decreases-suppose l = 32 * l.room + 0

abbrev pub decreases-supposes : goal.decreases-supposes
decreases-supposes l = 32 * l.room + 1

abbrev pub decreases-cases : goal.decreases-cases
decreases-cases l = 32 * l.room + 2

abbrev pub decreases-reasoning : goal.decreases-reasoning
decreases-reasoning l = 32 * l.room + 7

abbrev pub invariant-supposes-list : goal.invariant-supposes-list
invariant-supposes-list l = SupposesSoFar l.fn.room l.items.items l.fn.reader.rest.now l.reader.rest.now

abbrev pub decreases-supposes-list : goal.decreases-supposes-list
decreases-supposes-list l = length l.reader.rest.now

abbrev pub invariant-reasoning-steps : goal.invariant-reasoning-steps
invariant-reasoning-steps l = StepsSoFar l.fn.room l.items.items l.fn.reader.rest.now l.reader.rest.now

abbrev pub decreases-reasoning-steps : goal.decreases-reasoning-steps
decreases-reasoning-steps l = length l.reader.rest.now
