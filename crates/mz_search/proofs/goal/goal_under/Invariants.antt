use Rattle.std.proofs.Common.{◌≡◌, ◌∷◌, take}
use Rattle.mz_search.proofs.goal.goal_under.Given as goal

abbrev pub invariant-loop-x : goal.invariant-loop-x
invariant-loop-x l = l.wider.items ≡ l.place ∷ take l.x-index l.scope
