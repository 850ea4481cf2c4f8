use Rattle.std.proofs.Common.{◌≡◌, length, map}
use Rattle.std.specs.Arc.{arc_value}
use Rattle.mz_types.specs.Structures.{made_by}
use Rattle.mz_types.proofs.structure_types.made_in.Given as goal

abbrev pub invariant-loop-x : goal.invariant-loop-x
invariant-loop-x l = made_by (map arc_value l.rest) l.s ≡ made_by (map arc_value l.all) l.s

abbrev pub decreases-loop-x : goal.decreases-loop-x
decreases-loop-x l = length l.rest
