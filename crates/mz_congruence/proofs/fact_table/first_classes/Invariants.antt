use Rattle.std.proofs.Common.{◌≡◌, ◌<◌, ℕ, length}
use Rattle.std.specs.Prelude.{slice_index}
use Rattle.mz_congruence.proofs.fact_table.first_classes.Given as goal

abbrev pub invariant-loop-k : goal.invariant-loop-k
invariant-loop-k l = (length l.out.items ≡ l.k) × ((k : ℕ) → k < l.k → slice_index l.out.items k ≡ slice_index l.c k)
