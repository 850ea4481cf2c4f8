use Rattle.std.proofs.Common.{◌≡◌, length, map}
use Rattle.std.specs.Arc.{arc_value}
use Rattle.std.specs.List.{list_any}
use Rattle.mz_terms.specs.Parts.{has_argument}
use Rattle.mz_terms.proofs.parts.some_has_argument.Given as goal

abbrev pub invariant-loop-x : goal.invariant-loop-x
invariant-loop-x l = list_any (has_argument l.symbol) (map arc_value l.rest) ≡ list_any (has_argument l.symbol) (map arc_value l.xs)

abbrev pub decreases-loop-x : goal.decreases-loop-x
decreases-loop-x l = length l.rest
