use Rattle.std.proofs.Common.{length}
use Rattle.mz_pproof.proofs.Stated.{EqualitiesSoFar}
use Rattle.mz_pproof.proofs.reasonings.equality_steps.Given as goal

abbrev pub invariant-list : goal.invariant-list
invariant-list l = EqualitiesSoFar l.fn.room l.items.items l.fn.reader.rest.now l.reader.rest.now

abbrev pub decreases-list : goal.decreases-list
decreases-list l = length l.reader.rest.now
