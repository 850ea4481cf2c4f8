-- Which articles depend directly on a name.
use Rattle.std.specs.Prelude.{◌≡◌, ◌⊎◌, ◌<◌, ℕ, List, [], ◌∷◌, Option, Some, length, unwrap_or, slice_get, Contains}
use Rattle.std.specs.BTreeMap.{BTreeMap, get}
use Rattle.std.specs.Ordering.{nat_cmp}
use Rattle.mz_base.specs.declared.name.Name.{Name}
use Rattle.mz_corpus.specs.Article.{Article}

-- the rows for each name, by its number
abbrev pub RowsByName : Type 0
RowsByName = ℕ → List ℕ

-- the rows that the map has at a number; none where it has none
abbrev pub rows_at : BTreeMap ℕ (List ℕ) → RowsByName
rows_at m number = unwrap_or (get nat_cmp m number) []

-- the row is added for these names, and nothing else
pub record HasAdded (old new : RowsByName) (names : List Name) (row : ℕ) : Type 0 where
  pub kept : (number r : ℕ) → Contains (old number) r → Contains (new number) r
  pub added : (n : Name) → Contains names n → Contains (new n.number) row
  pub only : (number r : ℕ) → Contains (new number) r → Contains (old number) r ⊎ (r ≡ row)

-- each article's row is among those of its direct dependencies, and there are no other rows than those of articles
pub record AreDependents (c : List Article) (rows : RowsByName) : Type 0 where
  pub each : (r : ℕ) (a : Article) (n : Name) → slice_get c r ≡ Some a → Contains a.dependencies n → Contains (rows n.number) r
  pub within : (number r : ℕ) → Contains (rows number) r → r < length c
