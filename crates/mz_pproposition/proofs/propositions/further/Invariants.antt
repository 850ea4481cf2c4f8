use Rattle.std.proofs.Common.{length}
use Rattle.mz_pproposition.proofs.PropositionSteps.{FurtherSoFar}
use Rattle.mz_pproposition.proofs.propositions.further.Given as goal

abbrev pub invariant-list : goal.invariant-list
invariant-list l = FurtherSoFar l.fn.room l.items.items l.fn.reader.rest.now l.reader.rest.now

abbrev pub decreases-list : goal.decreases-list
decreases-list l = length l.reader.rest.now
