use Rattle.std.proofs.Common.{◌≡◌, length, map}
use Rattle.std.specs.Arc.{arc_value}
use Rattle.std.specs.List.{list_any}
use Rattle.mz_choice.specs.Choice.{is_of_symbol}
use Rattle.mz_choice.proofs.resolve.has_symbol.Given as goal

abbrev pub invariant-loop-x : goal.invariant-loop-x
invariant-loop-x l = list_any (is_of_symbol l.a) (map arc_value l.rest) ≡ list_any (is_of_symbol l.a) (map arc_value l.xs)

abbrev pub decreases-loop-x : goal.decreases-loop-x
decreases-loop-x l = length l.rest
