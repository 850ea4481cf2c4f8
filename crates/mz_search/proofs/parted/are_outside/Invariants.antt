use Rattle.std.proofs.Common.{◌≡◌, map, take}
use Rattle.std.specs.Prelude.{false, true}
use Rattle.std.specs.List.{AllByRecursion}
use Rattle.mz_search.specs.Kept.{goal_kept}
use Rattle.mz_search.specs.Goals.{goal_of}
use Rattle.mz_search.proofs.parted.are_outside.Given as goal

abbrev pub invariant-loop-g : goal.invariant-loop-g
invariant-loop-g l = AllByRecursion (λ g. goal_kept l.e l.marks false g ≡ true) (map goal_of (take l.g-index l.goals))
