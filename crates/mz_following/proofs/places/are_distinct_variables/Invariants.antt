use Rattle.std.proofs.Common.{◌≡◌, length}
use Rattle.mz_following.specs.Places.{are_distinct_variables}
use Rattle.mz_following.proofs.places.are_distinct_variables.Given as goal

abbrev pub invariant-loop-t : goal.invariant-loop-t
invariant-loop-t l = are_distinct_variables l.rest ≡ are_distinct_variables l.ts

abbrev pub decreases-loop-t : goal.decreases-loop-t
decreases-loop-t l = length l.rest
