use Rattle.std.proofs.Common.{◌≡◌, length, map}
use Rattle.mz_sizes.specs.Sizes.{statement_keeps}
use Rattle.mz_applied.specs.Within.{within}
use Rattle.mz_joined.specs.Bound.{of_type_within}
use Rattle.mz_joined.proofs.SaidLemmas.{all_said, says}
use Rattle.mz_joined.proofs.said.of_type_within.Given as goal

abbrev pub invariant-loop-a : goal.invariant-loop-a
invariant-loop-a l = within statement_keeps l.first (all_said l.said (map (says l.t) l.rest)) ≡ of_type_within l.first l.ty l.t

abbrev pub decreases-loop-a : goal.decreases-loop-a
decreases-loop-a l = length l.rest
