use Rattle.std.proofs.Common.{◌≡◌, ◌<◌, ℕ, None}
use Rattle.mz_rows.specs.Table.{bad_of}
use Rattle.mz_rows.proofs.table.Table.first_blocked.Given as goal

abbrev pub invariant-loop-row : goal.invariant-loop-row
invariant-loop-row l = (k : ℕ) → k < l.row → bad_of l.self.corpus.articles l.self.rows k ≡ None
