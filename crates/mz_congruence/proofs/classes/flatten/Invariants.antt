use Rattle.std.proofs.Common.{◌≡◌, ℕ, ◌<◌, ◌≤◌, length}
use Rattle.std.specs.Prelude.{slice_index}
use Rattle.mz_congruence.specs.Classes.{root, Descends, total}
use Rattle.mz_congruence.proofs.classes.flatten.Given as goal

abbrev pub invariant-loop-k : goal.invariant-loop-k
invariant-loop-k l = record {
  len : length l.c ≡ length l.fn.c;
  descends : Descends l.c;
  flat : (i : ℕ) → i < l.k → slice_index l.c (slice_index l.c i) ≡ slice_index l.c i;
  roots : (i : ℕ) → root l.c i ≡ root l.fn.c i;
  less : total l.c ≤ total l.fn.c;
}
