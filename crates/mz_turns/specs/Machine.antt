-- The machine: the rows of all articles, and the turns that change them.
use Rattle.std.specs.Prelude.{◌≡◌, ℕ, Bool, true, false, List, [], ◌∷◌, ◌++◌, map, Option, Some, None, slice_get, slice_set}
use Rattle.mz_core.specs.declared.outcome.Outcome.{Outcome}
use Rattle.mz_base.specs.declared.name.Name.{Name}
use Rattle.mz_axioms.specs.Checker.{OutcomeRelation}
use Rattle.mz_corpus.specs.Article.{Article}
use Rattle.mz_turns.specs.Row.{Row, Waiting, Claimed, Blocked, is_settled, is_accepted, freed, row_of, row_at}
use Rattle.mz_turns.specs.Dependencies.{direct_rows, start_row}
use Rattle.mz_turns.specs.Library.{environment}
use Rattle.mz_turns.specs.declared.turn.Turn.{Turn}
use Rattle.mz_turns.specs.declared.turn.Turn.TheVariants.{Take, Publish, Reclaim}

abbrev pub and_then : Bool → Bool → Bool
and_then true b = b
and_then false b = false

-- the rows with these numbers are all settled
abbrev pub all_settled : List Row → List ℕ → Bool
all_settled rows [] = true
all_settled rows (d ∷ ds) = and_then (is_settled (row_at rows d)) (all_settled rows ds)

-- they are all accepted
abbrev pub all_accepted : List Row → List ℕ → Bool
all_accepted rows [] = true
all_accepted rows (d ∷ ds) = and_then (is_accepted (row_at rows d)) (all_accepted rows ds)

abbrev pub unless_accepted : Bool → ℕ → Option ℕ → Option ℕ
unless_accepted true d o = o
unless_accepted false d o = Some d

-- the first that isn't accepted
abbrev pub first_unaccepted : List Row → List ℕ → Option ℕ
first_unaccepted rows [] = None
first_unaccepted rows (d ∷ ds) = unless_accepted (is_accepted (row_at rows d)) d (first_unaccepted rows ds)

-- the row waits and its direct dependencies are all settled
pub record IsReady (c : List Article) (rows : List Row) (r : ℕ) : Type 0 where
  pub article : Article
  pub is_at : slice_get c r ≡ Some article
  pub waits : row_at rows r ≡ Waiting
  pub settled : all_settled rows (direct_rows c article) ≡ true

-- the row is ready, and the article of this name is the first of its direct dependencies that isn't accepted
pub record IsBlockedBy (c : List Article) (rows : List Row) (r : ℕ) (name : Name) : Type 0 where
  pub article : Article
  pub is_at : slice_get c r ≡ Some article
  pub waits : row_at rows r ≡ Waiting
  pub settled : all_settled rows (direct_rows c article) ≡ true
  pub row : ℕ
  pub unaccepted : first_unaccepted rows (direct_rows c article) ≡ Some row
  pub other : Article
  pub other_at : slice_get c row ≡ Some other
  pub named : other.name ≡ name

-- no ready row has a direct dependency that isn't accepted
abbrev pub NoneIsBlocked : List Article → List Row → Type 0
NoneIsBlocked c rows =
    (r : ℕ) (a : Article) → slice_get c r ≡ Some a → row_at rows r ≡ Waiting → all_settled rows (direct_rows c a) ≡ true → first_unaccepted rows (direct_rows c a) ≡ None

-- rows are settled as blocked, in any order, until no such row is left
pub data Blocks (c : List Article) : List Row → List Row → Type 0 where
  end : (rows : List Row) → NoneIsBlocked c rows → Blocks c rows rows
  block : (r : ℕ) (name : Name) (rows after : List Row) → IsBlockedBy c rows r name → Blocks c (slice_set rows r (Blocked name)) after → Blocks c rows after

-- a turn, where it is allowed
pub data Step (is_outcome : OutcomeRelation) (c : List Article) : List Row → Turn → List Row → Type 0 where
  -- a worker takes a row that is ready
  take : (r w : ℕ) (rows : List Row) → IsReady c rows r → Step is_outcome c rows (Take r w) (slice_set rows r (Claimed w))
  -- the worker that has claimed a row settles it with its outcome; then blocked rows are settled
  publish : (r w : ℕ) (a : Article) (t : List ℕ) (o : Outcome) (rows after : List Row) → slice_get c r ≡ Some a → row_at rows r ≡ Claimed w → a.text ≡ Some t → is_outcome a.name a.vocabularies (environment rows a) t o → Blocks c (slice_set rows r (row_of o)) after → Step is_outcome c rows (Publish r w) after
  -- all claims are taken away, where there is one
  reclaim : (r w : ℕ) (rows : List Row) → row_at rows r ≡ Claimed w → Step is_outcome c rows Reclaim (map freed rows)

-- the rows before any turn: missing and cyclic ones are settled, then blocked ones
abbrev pub Starts : List Article → List Row → Type 0
Starts c rows = Blocks c (map start_row c) rows

-- the rows after the turns, each of which was allowed
pub data Replays (is_outcome : OutcomeRelation) (c : List Article) : List Turn → List Row → Type 0 where
  start : (rows : List Row) → Starts c rows → Replays is_outcome c [] rows
  turn : (ts : List Turn) (t : Turn) (rows after : List Row) → Replays is_outcome c ts rows → Step is_outcome c rows t after → Replays is_outcome c (ts ++ t ∷ []) after
