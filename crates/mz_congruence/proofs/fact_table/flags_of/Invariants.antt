use Rattle.std.proofs.Common.{◌≡◌, ◌<◌, ◌+◌, ℕ, length}
use Rattle.std.specs.Prelude.{slice_index, slice_get, Some, nat_eq}
use Rattle.mz_congruence.proofs.fact_table.flags_of.Given as goal

abbrev pub invariant-loop-k : goal.invariant-loop-k
invariant-loop-k l = record {
  len : length l.out.items ≡ l.k;
  flags : (k : ℕ) → k < l.k → slice_get l.out.items k ≡ Some (nat_eq (slice_index l.c (l.start + k)) (slice_index l.c l.yes));
}
