use Rattle.std.proofs.Common.{◌≡◌, map, take}
use Rattle.mz_core.specs.StatementForms.{opposite}
use Rattle.mz_items.proofs.cases.negations.Given as goal

abbrev pub invariant-loop-x : goal.invariant-loop-x
invariant-loop-x l = l.out.items ≡ map opposite (take l.x-index l.x-items)
