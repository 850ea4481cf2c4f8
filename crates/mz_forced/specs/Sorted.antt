-- Literals in their order, each once.
use Rattle.std.specs.Prelude.{◌≡◌, ◌↔◌, ◌⊎◌, ◌≤◌, ℕ, List, length, Contains}
use Rattle.std.specs.declared.cmp.Ordering.TheVariants.{Less}
use Rattle.std.specs.List.Sorted.{IsStrictlySortedBy}
use Rattle.mz_logic.specs.Order.{literal_cmp}
use Rattle.mz_logic.specs.declared.literal.Literal.{Literal}

-- each before all later ones in the order of literals
abbrev pub AreAscending : List Literal → Type 0
AreAscending ls = IsStrictlySortedBy literal_cmp ls

-- the literals of which the fact holds, each once and in their order
pub record AreAllOf (P : Literal → Type 0) (ls : List Literal) : Type 0 where
  pub ascending : AreAscending ls
  pub members : (l : Literal) → Contains ls l ↔ P l

-- the first n of the literals of which the fact holds, or all where there are no more
pub record AreFirstOf (n : ℕ) (P : Literal → Type 0) (ls : List Literal) : Type 0 where
  pub ascending : AreAscending ls
  pub few : length ls ≤ n
  pub each : (l : Literal) → Contains ls l → P l
  -- another one with the fact comes behind n of them
  pub others : (l : Literal) → P l → Contains ls l ⊎ ((length ls ≡ n) × ((m : Literal) → Contains ls m → literal_cmp m l ≡ Less))
