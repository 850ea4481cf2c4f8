use Rattle.std.proofs.Common.{◌≡◌, ℕ, [], length}
use Rattle.mz_classes.specs.Numbers.{list_at}
use Rattle.mz_classes.proofs.member_lists.empty_lists.Given as goal

abbrev pub invariant-lists : goal.invariant-lists
invariant-lists l = (length l.lists ≡ l.counter) × ((k : ℕ) → list_at l.lists k ≡ [])
