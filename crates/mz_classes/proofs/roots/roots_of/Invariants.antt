use Rattle.std.proofs.Common.{◌≡◌, ◌<◌, ◌≤◌, ℕ, length}
use Rattle.std.specs.Prelude.{slice_index}
use Rattle.mz_classes.proofs.roots.roots_of.Given as goal

abbrev pub invariant-loop-i : goal.invariant-loop-i
invariant-loop-i l = record {
  len : length l.out.items ≡ l.i;
  earlier : (i : ℕ) → i < l.i → slice_index l.out.items i ≤ i;
  same : (i : ℕ) → i < l.i → slice_index l.labels (slice_index l.out.items i) ≡ slice_index l.labels i;
}
