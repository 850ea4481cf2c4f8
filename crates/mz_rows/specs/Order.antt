-- The order of a corpus as an order for the verdicts.
use Rattle.std.specs.Prelude.{◌≡◌, ℕ, List, ◌++◌, map, Some, slice_get, Contains}
use Rattle.std.specs.List.{filter}
use Rattle.mz_base.specs.declared.name.Name.{Name}
use Rattle.mz_corpus.specs.Article.{Article}
use Rattle.mz_corpus.specs.declared.ordering.Ordering.{Ordering}
use Rattle.mz_turns.specs.Row.{is_waiting, row_at}
use Rattle.mz_turns.specs.Dependencies.{place_of, start_row}
use Rattle.mz_turns.specs.Order.{IsOrder}

-- the rows of the articles with these names, without those that are settled before any is checked
abbrev pub judged_rows : List Article → List Name → List ℕ
judged_rows c ns = filter (λ r. is_waiting (row_at (map start_row c) r)) (map (place_of c) ns)

-- the articles in the order, followed by some of the rest, are an order for the verdicts
pub record BeginsOrder (c : List Article) (o : Ordering) : Type 0 where
  pub rest : List ℕ
  pub of_rest : (r : ℕ) (a : Article) → Contains rest r → slice_get c r ≡ Some a → Contains o.rest a.name
  pub order : IsOrder c (map start_row c) (judged_rows c o.order ++ rest)
