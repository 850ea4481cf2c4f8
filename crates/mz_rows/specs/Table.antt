-- A table of rows as contracts see it.
use Rattle.std.specs.Prelude.{◌≡◌, ◌<◌, ◌≤◌, ℕ, Bool, true, false, List, Option, Some, None, slice_get}
use Rattle.mz_corpus.specs.Article.{Article}
use Rattle.mz_corpus.specs.Corpus.{Corpus}
use Rattle.mz_turns.specs.Row.{Row, is_waiting, row_at}
use Rattle.mz_turns.specs.Dependencies.{direct_rows}
use Rattle.mz_turns.specs.Machine.{and_then, all_settled, first_unaccepted}

pub record Table : Type 0 where
  pub corpus : Corpus
  pub rows : List Row

abbrev pub ready_by : List Article → List Row → Option Article → Row → Bool
ready_by c rows None x = false
ready_by c rows (Some a) x = and_then (is_waiting x) (all_settled rows (direct_rows c a))

-- the row waits and its direct dependencies are all settled
abbrev pub is_ready : List Article → List Row → ℕ → Bool
is_ready c rows r = ready_by c rows (slice_get c r) (row_at rows r)

abbrev pub number_of : Option Article → ℕ
number_of None = 0
number_of (Some a) = a.name.number

-- the number of the name of a row's article
abbrev pub number_at : List Article → ℕ → ℕ
number_at c r = number_of (slice_get c r)

-- among the rows below n none is ready, or this one is the first in the order of names that is
abbrev pub IsFirstReady : List Article → List Row → ℕ → Option ℕ → Type 0
IsFirstReady c rows n None = (k : ℕ) → k < n → is_ready c rows k ≡ false
IsFirstReady c rows n (Some r) =
    (r < n) × (is_ready c rows r ≡ true) × ((k : ℕ) → k < n → is_ready c rows k ≡ true → number_at c r ≤ number_at c k)

abbrev pub bad_if : Bool → Option ℕ → Option ℕ
bad_if true o = o
bad_if false o = None

abbrev pub bad_by : List Article → List Row → Option Article → Row → Option ℕ
bad_by c rows None x = None
bad_by c rows (Some a) x = bad_if (and_then (is_waiting x) (all_settled rows (direct_rows c a))) (first_unaccepted rows (direct_rows c a))

-- the first direct dependency of a ready row that isn't accepted
abbrev pub bad_of : List Article → List Row → ℕ → Option ℕ
bad_of c rows r = bad_by c rows (slice_get c r) (row_at rows r)
