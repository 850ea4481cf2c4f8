use Rattle.std.proofs.Common.{◌≡◌, map, take}
use Rattle.mz_rows.specs.Entries.{start_entry}
use Rattle.mz_rows.proofs.table.start_entries.Given as goal

abbrev pub invariant-loop-a : goal.invariant-loop-a
invariant-loop-a l = l.items.items ≡ map start_entry (take l.a-index l.articles)
