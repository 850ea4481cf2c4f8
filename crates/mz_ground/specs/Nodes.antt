-- What is left of a number of nodes.
use Rattle.std.specs.Prelude.{◌≡◌, ◌<◌, ◌+◌, ℕ, Option, MatchOption}

-- what is left of n after k; nothing where k is more
pub record IsSpent (n k : ℕ) (rest : Option ℕ) : Type 0 where
  pub spent : MatchOption rest (n < k) (λ m. m + k ≡ n)
