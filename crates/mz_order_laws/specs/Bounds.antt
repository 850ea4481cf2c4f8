-- How large the numbers of an order are.
use Rattle.std.specs.Prelude.{◌≡◌, ◌≤◌, ℕ, Some}
use Rattle.mz_words.specs.Words.{Asked}

-- 1 to 16 workers, and 1 to 512 made articles where any are asked for
pub record IsBounded (a : Asked) : Type 0 where
  pub some_workers : 1 ≤ a.workers
  pub few_workers : a.workers ≤ 16
  pub made : (n : ℕ) → a.generate ≡ Some n → (1 ≤ n) × (n ≤ 512)
