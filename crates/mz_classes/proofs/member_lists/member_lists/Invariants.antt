use Rattle.std.proofs.Common.{◌≡◌, ℕ, length}
use Rattle.mz_congruence.specs.FactTable.{table_view}
use Rattle.mz_classes.specs.Numbers.{list_at, numbers_where}
use Rattle.mz_classes.specs.Indexed.{has_label}
use Rattle.mz_classes.proofs.member_lists.member_lists.Given as goal

abbrev pub invariant-loop-k : goal.invariant-loop-k
invariant-loop-k l = (length l.lists ≡ l.count) × ((label : ℕ) → list_at l.lists label ≡ numbers_where (has_label (table_view l.f) l.places label) l.k)
