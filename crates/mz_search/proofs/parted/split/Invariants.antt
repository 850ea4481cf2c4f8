use Rattle.std.proofs.Common.{◌++◌, map, vec_len}
use Rattle.mz_search.specs.Goals.{goal_of}
use Rattle.mz_search.specs.States.{AreSplit}
use Rattle.mz_search.proofs.parted.split.Given as goal

abbrev pub invariant-loop-g : goal.invariant-loop-g
invariant-loop-g l = AreSplit l.e l.marks (map goal_of l.initial.left.items) (map goal_of l.near.items) (map goal_of (l.left.items ++ l.far.items))

abbrev pub decreases-loop-g : goal.decreases-loop-g
decreases-loop-g l = vec_len l.left
