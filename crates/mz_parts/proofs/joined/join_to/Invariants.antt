use Rattle.std.proofs.Common.{◌≡◌, length, map}
use Rattle.mz_core.specs.Parts.{conjunction_to}
use Rattle.mz_sizes.specs.Sizes.{statement_keeps}
use Rattle.mz_applied.specs.Within.{within}
use Rattle.mz_steps.specs.Changes.{statement_of}
use Rattle.mz_parts.proofs.joined.join_to.Given as goal

abbrev pub invariant-loop-p : goal.invariant-loop-p
invariant-loop-p l = within statement_keeps l.first (conjunction_to l.all (map statement_of l.rest)) ≡ within statement_keeps l.first (conjunction_to l.fn.s (map statement_of l.ps))

abbrev pub decreases-loop-p : goal.decreases-loop-p
decreases-loop-p l = length l.rest
