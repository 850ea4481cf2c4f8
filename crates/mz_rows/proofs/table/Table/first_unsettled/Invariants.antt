use Rattle.std.proofs.Common.{◌≡◌, ◌<◌, ℕ, true}
use Rattle.mz_turns.specs.Row.{row_at, is_settled}
use Rattle.mz_rows.proofs.table.Table.first_unsettled.Given as goal

abbrev pub invariant-loop-row : goal.invariant-loop-row
invariant-loop-row l = (k : ℕ) → k < l.row → is_settled (row_at l.self.rows k) ≡ true
