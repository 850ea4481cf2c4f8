use Rattle.std.proofs.Common.{◌≡◌, length}
use Rattle.mz_sizes.specs.Sizes.{statement_keeps}
use Rattle.mz_applied.specs.Within.{within}
use Rattle.mz_thesis.specs.Cases.{disjunction_to}
use Rattle.mz_parts.proofs.joined.disjoin.Given as goal

abbrev pub invariant-loop-t : goal.invariant-loop-t
invariant-loop-t l = within statement_keeps l.first (disjunction_to l.all l.rest) ≡ within statement_keeps l.first (disjunction_to l.fn.s l.ss)

abbrev pub decreases-loop-t : goal.decreases-loop-t
decreases-loop-t l = length l.rest
