-- Flags by their indices.
use Rattle.std.proofs.Common.{◌≡◌, ◌<◌, ◌≤◌, ℕ, zero, suc, List, [], ◌∷◌, length, refl, arith, Bool, false}
use Rattle.std.specs.Prelude.{slice_index_or}
use Rattle.mz_search.specs.Kept.{flag_at}

pub flag_or : (flags : List Bool) (i : ℕ) → i < length flags → slice_index_or flags i false ≡ flag_at flags i
flag_or [] i lt = absurd (omega arith)
flag_or (y ∷ flags) zero lt = refl
flag_or (y ∷ flags) (suc i) lt = flag_or flags i (omega arith)

pub flag_past : (flags : List Bool) (i : ℕ) → length flags ≤ i → false ≡ flag_at flags i
flag_past [] i le = refl
flag_past (y ∷ flags) zero le = absurd (omega arith)
flag_past (y ∷ flags) (suc i) le = flag_past flags i (omega arith)
