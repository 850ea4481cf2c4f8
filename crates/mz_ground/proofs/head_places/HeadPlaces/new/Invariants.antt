use Rattle.std.proofs.Common.{◌≡◌, ◌<◌, ℕ, [], length}
use Rattle.mz_ground.specs.Heads.{list_at}
use Rattle.mz_ground.proofs.head_places.HeadPlaces.new.Given as goal

abbrev pub invariant-lists : goal.invariant-lists
invariant-lists l = (0 < length l.lists.items) × ((k : ℕ) → list_at l.lists.items k ≡ [])
