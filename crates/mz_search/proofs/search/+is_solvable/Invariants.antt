use Rattle.std.proofs.Common.{◌++◌, map, take}
use Rattle.mz_search.specs.Goals.{known, goal_of, sizes}
use Rattle.mz_match.specs.Rows.{SomeOf}
use Rattle.mz_search.specs.States.{Solvable, state_of}
use Rattle.mz_search.proofs.search.+is_solvable.Given as goal

abbrev pub decreases-is_solvable : goal.decreases-is_solvable
decreases-is_solvable l = sizes (map goal_of l.state.goals.items)

abbrev pub invariant-loop-branch : goal.invariant-loop-branch
invariant-loop-branch l = SomeOf (λ b. Solvable (known l.table l.values l.universals) (b.0 ++ map goal_of l.near.items) b.1) (map state_of (take l.branch-index l.branch-items)) → ⊥
