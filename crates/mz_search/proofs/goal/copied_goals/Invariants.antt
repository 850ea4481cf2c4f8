use Rattle.std.proofs.Common.{◌≡◌, map, take}
use Rattle.mz_search.specs.Goals.{goal_of}
use Rattle.mz_search.proofs.goal.copied_goals.Given as goal

abbrev pub invariant-loop-g : goal.invariant-loop-g
invariant-loop-g l = map goal_of l.out.items ≡ map goal_of (take l.g-index l.goals)
