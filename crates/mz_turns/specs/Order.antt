-- The verdicts made one after another along an order, and how often a row is published.
use Rattle.std.specs.Prelude.{◌≡◌, ◌+◌, ◌<◌, ℕ, Bool, true, false, ◌==◌, List, [], ◌∷◌, length, map, Some, slice_get, slice_set}
use Rattle.mz_core.specs.declared.outcome.Outcome.{Outcome}
use Rattle.mz_axioms.specs.Checker.{OutcomeRelation}
use Rattle.mz_corpus.specs.Article.{Article}
use Rattle.mz_turns.specs.Row.{Row, Waiting, Blocked, is_settled, row_of, row_at}
use Rattle.mz_turns.specs.Dependencies.{direct_rows, start_row}
use Rattle.mz_turns.specs.Library.{environment}
use Rattle.mz_turns.specs.Machine.{all_settled, all_accepted, first_unaccepted}
use Rattle.mz_turns.specs.declared.turn.Turn.{Turn}
use Rattle.mz_turns.specs.declared.turn.Turn.TheVariants.{Take, Publish, Reclaim}

-- the verdict of one article from those of others
pub data Judges (is_outcome : OutcomeRelation) (c : List Article) (rows : List Row) (a : Article) : Row → Type 0 where
  is_blocked : (d : ℕ) (b : Article) → all_settled rows (direct_rows c a) ≡ true → first_unaccepted rows (direct_rows c a) ≡ Some d → slice_get c d ≡ Some b → Judges is_outcome c rows a (Blocked b.name)
  is_checked : (t : List ℕ) (o : Outcome) (x : Row) → all_accepted rows (direct_rows c a) ≡ true → a.text ≡ Some t → is_outcome a.name a.vocabularies (environment rows a) t o → row_of o ≡ x → Judges is_outcome c rows a x

-- the articles of the list are judged one after another
pub data Folds (is_outcome : OutcomeRelation) (c : List Article) : List ℕ → List Row → List Row → Type 0 where
  done : (rows : List Row) → Folds is_outcome c [] rows rows
  next : (r : ℕ) (rs : List ℕ) (a : Article) (x : Row) (rows after : List Row) → slice_get c r ≡ Some a → row_at rows r ≡ Waiting → Judges is_outcome c rows a x → Folds is_outcome c rs (slice_set rows r x) after → Folds is_outcome c (r ∷ rs) rows after

-- all rows are settled
abbrev pub IsSettled : List Article → List Row → Type 0
IsSettled c rows = (r : ℕ) → r < length c → is_settled (row_at rows r) ≡ true

-- all articles judged one after another, in this order
abbrev pub FoldsAll : OutcomeRelation → List Article → List ℕ → List Row → Type 0
FoldsAll is_outcome c order rows = Folds is_outcome c order (map start_row c) rows × IsSettled c rows

-- an order: each article that has to be judged, once, after its direct dependencies
pub data IsOrder (c : List Article) : List Row → List ℕ → Type 0 where
  ends : (rows : List Row) → IsSettled c rows → IsOrder c rows []
  goes : (r : ℕ) (rs : List ℕ) (a : Article) (rows : List Row) → slice_get c r ≡ Some a → row_at rows r ≡ Waiting → all_settled rows (direct_rows c a) ≡ true → ((x : Row) → is_settled x ≡ true → IsOrder c (slice_set rows r x) rs) → IsOrder c rows (r ∷ rs)

abbrev pub one_if : Bool → ℕ
one_if true = 1
one_if false = 0

-- how often the row is published in the turns
abbrev pub publications : ℕ → List Turn → ℕ
publications r [] = 0
publications r (Take q w ∷ ts) = publications r ts
publications r (Publish q w ∷ ts) = one_if (q == r) + publications r ts
publications r (Reclaim ∷ ts) = publications r ts
