use Rattle.std.proofs.Common.{◌≡◌, take}
use Rattle.mz_rows.specs.Counts.{counts_of}
use Rattle.mz_rows.proofs.counts.counts_of.Given as goal

abbrev pub invariant-loop-item : goal.invariant-loop-item
invariant-loop-item l = l.counts ≡ counts_of (take l.item-index l.item-items)
