use Rattle.std.proofs.Common.{◌≡◌, ◌<◌, ℕ, false}
use Rattle.mz_turns.specs.Row.{row_at, is_claimed}
use Rattle.mz_rows.proofs.table.Table.first_claimed.Given as goal

abbrev pub invariant-loop-row : goal.invariant-loop-row
invariant-loop-row l = (k : ℕ) → k < l.row → is_claimed (row_at l.self.rows k) ≡ false
