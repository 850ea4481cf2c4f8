-- How articles are taken one after another.
use Rattle.std.specs.Prelude.{◌≡◌, ◌<◌, ◌≤◌, ℕ, Bool, true, if◌then◌else◌, List, [], ◌∷◌, Option, Some, None, length, take, fold, All, Contains, slice_get, slice_index_or}
use Rattle.std.specs.List.{list_all}
use Rattle.mz_base.specs.declared.name.Name.{Name}
use Rattle.mz_corpus.specs.Article.{Article}
use Rattle.mz_corpus.specs.Ascending.{with_ascending}
use Rattle.mz_corpus.specs.Order.{is_at_hand, is_ready}

-- the names that were taken, in turn, those that are ready, in their order, and for each row a place up to which the
-- article's dependencies are known to be at hand
pub record Taking : Type 0 where
  pub taken : List Name
  pub ready : List Name
  pub seen : List ℕ

-- the dependencies before the place are at hand
pub record IsSeen (taken dependencies : List Name) (at : ℕ) : Type 0 where
  pub within : at ≤ length dependencies
  pub before : list_all (is_at_hand taken) (take at dependencies) ≡ true

-- the same for each row
pub record AreSeen (c : List Article) (taken : List Name) (seen : List ℕ) : Type 0 where
  pub whole : length seen ≡ length c
  pub each : (r : ℕ) (a : Article) → slice_get c r ≡ Some a → IsSeen taken a.dependencies (slice_index_or seen r 0)

-- the names with that of the article, where it is ready
abbrev pub with_ready : List Name → List Name → Article → List Name
with_ready taken ready a = if is_ready taken a then with_ascending ready a.name else ready

abbrev pub with_ready_at : List Name → List Name → Option Article → List Name
with_ready_at taken ready None = ready
with_ready_at taken ready (Some a) = with_ready taken ready a

-- the same for the article of a row
abbrev pub with_row : List Article → List Name → List Name → ℕ → List Name
with_row c taken ready row = with_ready_at taken ready (slice_get c row)

-- and for those of some rows
abbrev pub with_rows : List Article → List Name → List Name → List ℕ → List Name
with_rows c taken ready rows = fold (with_row c taken) ready rows

-- the first of the ready names is taken away, if there is one
abbrev pub IsPopped : Taking → Option Name → Taking → Type 0
IsPopped old None new = (old.ready ≡ []) × (new ≡ old)
IsPopped old (Some n) new = (old.ready ≡ n ∷ new.ready) × All (λ m. n.number < m.number) new.ready × (new.taken ≡ old.taken) × (new.seen ≡ old.seen)

-- the name is that of a ready article
pub record IsReadyName (c : List Article) (taken : List Name) (n : Name) : Type 0 where
  pub article : Article
  pub held : Contains c article
  pub named : article.name ≡ n
  pub ready : is_ready taken article ≡ true

-- the names are exactly those of the ready articles
pub record AreReady (c : List Article) (taken ready : List Name) : Type 0 where
  pub all : (a : Article) → Contains c a → is_ready taken a ≡ true → Contains ready a.name
  pub only : (n : Name) → Contains ready n → IsReadyName c taken n
