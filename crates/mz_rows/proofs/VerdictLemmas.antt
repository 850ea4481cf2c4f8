-- The library of the verdicts is sound.
use Rattle.std.proofs.Common.{◌≡◌, ℕ, false, List, map, refl, ap, sym, subst}
use Rattle.std.specs.Prelude.{Some, slice_get, slice_set, Contains}
use Rattle.mz_core.specs.declared.outcome.Outcome.{Outcome}
use Rattle.mz_core.specs.declared.outcome.Outcome.TheVariants as outcome
use Rattle.mz_axioms.specs.Library.{Sound, AreExportsOf, added}
use Rattle.mz_axioms.specs.Checker.{OutcomeRelation, HasOneOutcome, AnswersName, KeepsSound}
use Rattle.mz_axioms.proofs.BuiltInLemmas.{built_in_sound}
use Rattle.mz_corpus.specs.Article.{Article}
use Rattle.mz_corpus.specs.Corpus.{Corpus, IsCorpus}
use Rattle.mz_turns.specs.Row.{Row, Waiting, Rejected, Blocked, is_settled, is_accepted, row_of, row_at}
use Rattle.mz_turns.specs.Dependencies.{start_row}
use Rattle.mz_turns.specs.Library.{library_of, is_used_by, environment}
use Rattle.mz_turns.specs.Verdicts.{AreVerdicts}
use Rattle.mz_turns.specs.Order.{Judges, is_blocked, is_checked, Folds, done, next}
use Rattle.mz_turns.proofs.NameLemmas.{AreArticles, articles_of}
use Rattle.mz_turns.proofs.LibraryLemmas.{library_same, library_start}
use Rattle.mz_turns.proofs.ExportLemmas.{from_filter, filter_in_order}
use Rattle.mz_turns.proofs.GoodLemmas.{Good, all_from}
use Rattle.mz_turns.proofs.MachineLemmas.{no_name, library_outcome, good_blocked, good_checked, start_good}
use Rattle.mz_turns.proofs.OrderLemmas.{fold_in_turn}
use Rattle.mz_rows.proofs.OrderLemmas.{some_order}

within : (rows : List Row) (a : Article) → Sound (library_of rows) → AreExportsOf (library_of rows) (environment rows a)
within rows a sound = (
  filter_in_order (is_used_by a) (library_of rows) sound.in_order,
  all_from (Contains (library_of rows)) (environment rows a) (λ e h. from_filter (is_used_by a) (library_of rows) e h),
)

abbrev IsKept : OutcomeRelation → List Article → List Row → ℕ → Row → Type 0
IsKept is_outcome c rows r x = Good is_outcome c (slice_set rows r x) × Sound (library_of (slice_set rows r x))

outcome_sound : (is_outcome : OutcomeRelation) → AnswersName is_outcome → KeepsSound is_outcome → (c : List Article) → AreArticles c → (rows : List Row) → Good is_outcome c rows → Sound (library_of rows) → (r : ℕ) (a : Article) (t : List ℕ) (o : Outcome) → slice_get c r ≡ Some a → row_at rows r ≡ Waiting → is_outcome a.name a.vocabularies (environment rows a) t o → Sound (library_of (slice_set rows r (row_of o)))
outcome_sound is_outcome names keeps c corpus rows g sound r a t (outcome.Rejected fs) k w is = subst Sound (sym (library_same rows r (Rejected fs) (ap is_accepted w) refl)) sound
outcome_sound is_outcome names keeps c corpus rows g sound r a t (outcome.Accepted e) k w is =
    let u : is_settled (row_at rows r) ≡ false = ap is_settled w in
    let put = library_outcome is_outcome names c corpus rows g r a k u e (names a.name a.vocabularies (environment rows a) t e is) in
    let now : Sound (added e (library_of rows)) =
    keeps a.name a.vocabularies (environment rows a) t e (library_of rows) sound (no_name is_outcome names c corpus rows g r a k u) (within rows a sound) is in
    subst Sound (sym put) now

judged_sound : (is_outcome : OutcomeRelation) → AnswersName is_outcome → KeepsSound is_outcome → (c : List Article) → AreArticles c → (rows : List Row) → Good is_outcome c rows → Sound (library_of rows) → (r : ℕ) (a : Article) (x : Row) → slice_get c r ≡ Some a → row_at rows r ≡ Waiting → Judges is_outcome c rows a x → IsKept is_outcome c rows r x
judged_sound is_outcome names keeps c corpus rows g sound r a x k w (is_blocked d b all first at) = (
  (good_blocked is_outcome c rows g r a d b k (ap is_settled w) all first at).1,
  subst Sound (sym (library_same rows r (Blocked b.name) (ap is_accepted w) refl)) sound,
)
judged_sound is_outcome names keeps c corpus rows g sound r a x k w (is_checked t o x1 all tx is e) =
    subst (IsKept is_outcome c rows r) e (
      (good_checked is_outcome names c corpus rows g r a k (ap is_settled w) all t o tx is).1,
      outcome_sound is_outcome names keeps c corpus rows g sound r a t o k w is,
    )

folds_sound : (is_outcome : OutcomeRelation) → AnswersName is_outcome → KeepsSound is_outcome → (c : List Article) → AreArticles c → (rs : List ℕ) (rows after : List Row) → Folds is_outcome c rs rows after → Good is_outcome c rows → Sound (library_of rows) → Sound (library_of after)
folds_sound is_outcome names keeps c corpus rs rows after (done rows1) g sound = sound
folds_sound is_outcome names keeps c corpus rs rows after (next r rs1 a x rows1 after1 k w j rest) g sound =
    let kept = judged_sound is_outcome names keeps c corpus rows g sound r a x k w j in
    folds_sound is_outcome names keeps c corpus rs1 (slice_set rows r x) after rest kept.0 kept.1

pub verdicts_sound : (is_outcome : OutcomeRelation) → HasOneOutcome is_outcome → AnswersName is_outcome → KeepsSound is_outcome → (k : Corpus) → IsCorpus k → (rows : List Row) → AreVerdicts is_outcome k.articles rows → Sound (library_of rows)
verdicts_sound is_outcome once names keeps k corpus rows verdicts =
    let c = k.articles in
    let articles = articles_of k corpus in
    let o = some_order k corpus in
    let folds = fold_in_turn is_outcome once names c articles rows verdicts o.0 o.1 in
    folds_sound is_outcome names keeps c articles o.0 (map start_row c) rows folds.0 (start_good is_outcome c) (subst Sound (sym (library_start c)) built_in_sound)
