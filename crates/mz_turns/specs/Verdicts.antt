-- The verdict of each article, as a relation: the articles are checked one after another along their
-- dependencies.
use Rattle.std.specs.Prelude.{◌≡◌, ◌<◌, ℕ, true, false, List, [], ◌∷◌, length, Some, slice_get}
use Rattle.mz_core.specs.declared.outcome.Export.{Export}
use Rattle.mz_core.specs.declared.outcome.Outcome.{Outcome}
use Rattle.mz_axioms.specs.Checker.{OutcomeRelation}
use Rattle.mz_corpus.specs.Article.{Article}
use Rattle.mz_turns.specs.Row.{Row, Waiting, Accepted, Blocked, is_settled, is_accepted, row_of, row_at}
use Rattle.mz_turns.specs.Dependencies.{direct_rows, all_rows, start_row}
use Rattle.mz_turns.specs.Library.{IsLibrary}

mutual
  -- the verdict of the article r
  pub data HasVerdict (is_outcome : OutcomeRelation) (c : List Article) : ℕ → Row → Type 0 where
    -- it is missing, or among its own dependencies
    unchecked : (r : ℕ) (a : Article) (x : Row) → slice_get c r ≡ Some a → start_row a ≡ x → is_settled x ≡ true → HasVerdict is_outcome c r x
    -- d is the first of its direct dependencies that isn't accepted
    blocked : (r : ℕ) (a : Article) (d : ℕ) (b : Article) → slice_get c r ≡ Some a → start_row a ≡ Waiting → FirstUnaccepted is_outcome c (direct_rows c a) d → slice_get c d ≡ Some b → HasVerdict is_outcome c r (Blocked b.name)
    -- its direct dependencies are accepted, and it is checked from the exports of all its dependencies
    checked : (r : ℕ) (a : Article) (t : List ℕ) (ds es library : List Export) (o : Outcome) (x : Row) → slice_get c r ≡ Some a → start_row a ≡ Waiting → a.text ≡ Some t → AllAccepted is_outcome c (direct_rows c a) ds → AllAccepted is_outcome c (all_rows c a) es → IsLibrary es library → is_outcome a.name a.vocabularies library t o → row_of o ≡ x → HasVerdict is_outcome c r x

  -- d is the first of the rows whose verdict isn't accepted
  pub data FirstUnaccepted (is_outcome : OutcomeRelation) (c : List Article) : List ℕ → ℕ → Type 0 where
    here : (d : ℕ) (ds : List ℕ) (x : Row) → HasVerdict is_outcome c d x → is_accepted x ≡ false → FirstUnaccepted is_outcome c (d ∷ ds) d
    later : (d : ℕ) (ds : List ℕ) (e : Export) (b : ℕ) → HasVerdict is_outcome c d (Accepted e) → FirstUnaccepted is_outcome c ds b → FirstUnaccepted is_outcome c (d ∷ ds) b

  -- the rows are accepted with these exports
  pub data AllAccepted (is_outcome : OutcomeRelation) (c : List Article) : List ℕ → List Export → Type 0 where
    none : AllAccepted is_outcome c [] []
    more : (d : ℕ) (ds : List ℕ) (e : Export) (es : List Export) → HasVerdict is_outcome c d (Accepted e) → AllAccepted is_outcome c ds es → AllAccepted is_outcome c (d ∷ ds) (e ∷ es)

-- the rows are the verdicts of all articles
pub record AreVerdicts (is_outcome : OutcomeRelation) (c : List Article) (rows : List Row) : Type 0 where
  pub whole : length rows ≡ length c
  pub each : (r : ℕ) → r < length c → HasVerdict is_outcome c r (row_at rows r)
