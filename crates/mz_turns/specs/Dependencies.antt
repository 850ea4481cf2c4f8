-- The rows of an article's dependencies, and how an article stands before any is checked.
use Rattle.std.specs.Prelude.{ℕ, suc, Bool, true, false, ◌==◌, List, [], ◌∷◌, map, Option, Some, None}
use Rattle.mz_base.specs.declared.name.Name.{Name}
use Rattle.mz_corpus.specs.Article.{Article, is_cyclic}
use Rattle.mz_turns.specs.Row.{Row, Waiting, Cyclic, Missing}

abbrev pub next_place : Bool → ℕ → ℕ
next_place true k = 0
next_place false k = suc k

-- the row of the first article with the name
abbrev pub place_of : List Article → Name → ℕ
place_of [] n = 0
place_of (a ∷ c) n = next_place (a.name.number == n.number) (place_of c n)

-- the rows of the direct dependencies, in the order of names
abbrev pub direct_rows : List Article → Article → List ℕ
direct_rows c a = map (place_of c) a.direct

-- the rows of all dependencies, direct or by others, in the order of names
abbrev pub all_rows : List Article → Article → List ℕ
all_rows c a = map (place_of c) a.reach

abbrev pub start_of : Option (List ℕ) → Bool → Row
start_of None cyclic = Missing
start_of (Some t) true = Cyclic
start_of (Some t) false = Waiting

-- how an article stands before any is checked
abbrev pub start_row : Article → Row
start_row a = start_of a.text (is_cyclic a)
