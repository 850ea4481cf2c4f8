use Rattle.std.proofs.Common.{◌≡◌, take, ◌++◌}
use Rattle.mz_items.proofs.structure_rows.followed.Given as goal

abbrev pub invariant-loop-u : goal.invariant-loop-u
invariant-loop-u l = l.out ≡ l.fn.ts ++ take l.u-index l.u-items
