use Rattle.std.proofs.Common.{◌++◌, ◌∷◌, vec_len}
use Rattle.std.specs.Prelude.{IsPermutation}
use Rattle.mz_search.proofs.pick.pick.Given as goal

abbrev pub invariant-loop-fewest : goal.invariant-loop-fewest
invariant-loop-fewest l = IsPermutation (l.initial.best ∷ l.initial.left.items) (l.best ∷ l.left.items ++ l.rest.items)

abbrev pub decreases-loop-fewest : goal.decreases-loop-fewest
decreases-loop-fewest l = vec_len l.left
