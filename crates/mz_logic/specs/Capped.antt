-- Counts that stop at 1,000,000,000.
use Rattle.std.specs.Prelude.{ℕ, min}

-- a count, or 1,000,000,000 where it is greater
unfoldable pub capped : ℕ → ℕ
capped n = min n 1000000000
