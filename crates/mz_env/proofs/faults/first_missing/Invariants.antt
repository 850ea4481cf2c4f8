use Rattle.std.proofs.Common.{◌≡◌, drop}
use Rattle.mz_env.specs.LetIn.{first_missing}
use Rattle.mz_env.proofs.faults.first_missing.Given as goal

abbrev pub invariant-loop-item : goal.invariant-loop-item
invariant-loop-item l = first_missing l.articles l.above (drop l.item-index l.item-items) ≡ first_missing l.articles 0 l.item-items
