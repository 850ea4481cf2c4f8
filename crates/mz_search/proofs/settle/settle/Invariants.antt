use Rattle.std.proofs.Common.{map}
use Rattle.mz_search.specs.Goals.{known, goal_of, sizes}
use Rattle.mz_search.specs.States.{state_of}
use Rattle.mz_search.proofs.SettleLemmas.{IsReached}
use Rattle.mz_search.proofs.settle.settle.Given as goal

abbrev pub invariant-goals : goal.invariant-goals
invariant-goals l = IsReached (known l.table l.values l.universals) (state_of l.fn.state) (state_of l.now)

abbrev pub decreases-goals : goal.decreases-goals
decreases-goals l = sizes (map goal_of l.now.goals.items)
