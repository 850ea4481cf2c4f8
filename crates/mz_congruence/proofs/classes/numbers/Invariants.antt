use Rattle.std.proofs.Common.{◌≡◌, ℕ, ◌<◌, get_or, length}
use Rattle.mz_congruence.proofs.classes.numbers.Given as goal

abbrev pub invariant-loop-i : goal.invariant-loop-i
invariant-loop-i l = (length l.c.items ≡ l.i) × ((k : ℕ) → k < l.i → get_or l.c.items k 0 ≡ k)
