use Rattle.std.proofs.Common.{ℕ, ◌<◌}
use Rattle.std.specs.Prelude.{Contains}
use Rattle.mz_corpus.proofs.dependents.Rows.up_to.Given as goal

abbrev pub invariant-loop-row : goal.invariant-loop-row
invariant-loop-row l = ((r : ℕ) → r < l.row → Contains l.items.items r) × ((r : ℕ) → Contains l.items.items r → r < l.row)
