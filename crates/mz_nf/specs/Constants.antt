-- Numbers of constants, and new ones.
use Rattle.std.specs.Prelude.{◌≡◌, ℕ, ◌≤◌, ◌<◌, Bool, true, false, ◌||◌, nat_eq, List}
use Rattle.std.specs.List.{list_any}
use Rattle.std.specs.HashSet.{HashSet, contains}
use Rattle.mz_logic.specs.Term.{Term}
use Rattle.mz_logic.specs.Formula.{Formula}
use Rattle.mz_logic.specs.Constants.{occurs, occurs_in_formula}

-- the number is in the set
abbrev pub has : {S : Type 0} → HashSet ℕ S → ℕ → Bool
has s c = contains nat_eq s c

-- the constants of the term came into the set, and no other number
unfoldable pub AddsTerm : {S : Type 0} → Term → HashSet ℕ S → HashSet ℕ S → Type 0
AddsTerm t old new = (c : ℕ) → has new c ≡ (has old c || occurs c t)

-- those of the terms
unfoldable pub AddsTerms : {S : Type 0} → List Term → HashSet ℕ S → HashSet ℕ S → Type 0
AddsTerms ts old new = (c : ℕ) → has new c ≡ (has old c || list_any (occurs c) ts)

-- those of the formula
unfoldable pub AddsFormula : {S : Type 0} → Formula → HashSet ℕ S → HashSet ℕ S → Type 0
AddsFormula f old new = (c : ℕ) → has new c ≡ (has old c || occurs_in_formula c f)

-- those of the formulas
unfoldable pub AddsFormulas : {S : Type 0} → List Formula → HashSet ℕ S → HashSet ℕ S → Type 0
AddsFormulas fs old new = (c : ℕ) → has new c ≡ (has old c || list_any (occurs_in_formula c) fs)

-- c is the least number from k on that is not used
pub record IsLeastUnused (used : ℕ → Bool) (k c : ℕ) : Type 0 where
  pub reached : k ≤ c
  pub unused : used c ≡ false
  pub least : (j : ℕ) → k ≤ j → j < c → used j ≡ true
