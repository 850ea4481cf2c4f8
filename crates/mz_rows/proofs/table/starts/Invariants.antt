use Rattle.std.proofs.Common.{◌≡◌, map, take}
use Rattle.mz_turns.specs.Dependencies.{start_row}
use Rattle.mz_rows.specs.Standing.{start_from}
use Rattle.mz_rows.proofs.table.starts.Given as goal

abbrev pub invariant-loop-a : goal.invariant-loop-a
invariant-loop-a l = map start_from l.out.items ≡ map start_row (take l.a-index l.articles)
