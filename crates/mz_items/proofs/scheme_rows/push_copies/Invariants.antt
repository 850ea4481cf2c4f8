use Rattle.std.proofs.Common.{◌≡◌, ◌++◌, take}
use Rattle.mz_items.proofs.scheme_rows.push_copies.Given as goal

abbrev pub invariant-loop-x : goal.invariant-loop-x
invariant-loop-x l = l.out ≡ l.initial.out ++ take l.x-index l.xs
