-- How many values a fact holds of.
use Rattle.std.specs.Prelude.{◌≡◌, ◌≢◌, ◌↔◌, ℕ, List, length, Contains, AllPairs}

-- the fact holds of n different values
pub record IsCount {A : Type 0} (P : A → Type 0) (n : ℕ) : Type 0 where
  pub values : List A
  pub members : (x : A) → (Contains values x ↔ P x)
  pub distinct : AllPairs (λ x y. x ≢ y) values
  pub number : length values ≡ n
