use Rattle.std.proofs.Common.{◌≡◌, drop}
use Rattle.mz_grouping.specs.Grouping.{neighbours_behind, has_neighbours}
use Rattle.mz_grouping.proofs.grouping.has_neighbours.Given as goal

abbrev pub invariant-loop-part : goal.invariant-loop-part
invariant-loop-part l = neighbours_behind l.before (drop l.part-index l.parts) ≡ has_neighbours l.parts
