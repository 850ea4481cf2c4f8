-- What a sink has taken.
use Rattle.std.specs.Prelude.{◌≡◌, ℕ, ◌<◌, ◌≤◌, List, ◌++◌, Option, Some, None, length, take}

-- the bytes taken after these, where the sink tells them
abbrev pub with_bytes : Option (List ℕ) → List ℕ → Option (List ℕ)
with_bytes None bytes = None
with_bytes (Some old) bytes = Some (old ++ bytes)

-- a part of these bytes from their front was taken, and no other byte
abbrev pub TookPrefix : Option (List ℕ) → Option (List ℕ) → List ℕ → Type 0
TookPrefix old new bytes = (n : ℕ) × (n ≤ length bytes) × (new ≡ with_bytes old (take n bytes))

-- the same, and not all of the bytes were taken
abbrev pub TookPart : Option (List ℕ) → Option (List ℕ) → List ℕ → Type 0
TookPart old new bytes = (n : ℕ) × (n < length bytes) × (new ≡ with_bytes old (take n bytes))
