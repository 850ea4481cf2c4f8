use Rattle.std.proofs.Common.{◌≡◌, length}
use Rattle.mz_items.specs.Closed.{are_distinct}
use Rattle.mz_loci.proofs.fixed.are_distinct.Given as goal

abbrev pub invariant-loop-n : goal.invariant-loop-n
invariant-loop-n l = are_distinct l.rest ≡ are_distinct l.ns

abbrev pub decreases-loop-n : goal.decreases-loop-n
decreases-loop-n l = length l.rest
