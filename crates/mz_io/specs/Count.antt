-- Counts that never fall.
use Rattle.std.specs.Prelude.{ℕ, ◌+◌, ◌≤◌, min}
use Rattle.std.proofs.Common.{lit≤}

-- the last value of a `u64`, at which a count stands still
abbrev pub last_count : ℕ
last_count = 18446744073709551615

-- a count after n more, at most the last value
abbrev pub counted : ℕ → ℕ → ℕ
counted old n = min (old + n) last_count

-- the count rose, or stands at the last value
abbrev pub Rose : ℕ → ℕ → Type 0
Rose old new = counted old 1 ≤ new

-- a count that stays 0 is at most the last value
pub none_fit : 0 ≤ last_count
none_fit = lit≤ tt
