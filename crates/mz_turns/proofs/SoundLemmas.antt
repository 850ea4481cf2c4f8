-- After any turns the library is sound.
use Rattle.std.proofs.Common.{◌≡◌, ℕ, List, map, refl, ap, sym, ◌∙◌, subst, false}
use Rattle.std.specs.Prelude.{Some, slice_get, slice_set, Contains}
use Rattle.mz_core.specs.declared.outcome.Outcome.{Outcome}
use Rattle.mz_core.specs.declared.outcome.Outcome.TheVariants as outcome
use Rattle.mz_axioms.specs.Library.{Sound, AreExportsOf, added}
use Rattle.mz_axioms.specs.Checker.{OutcomeRelation, AnswersName, KeepsSound}
use Rattle.mz_axioms.proofs.BuiltInLemmas.{built_in_sound}
use Rattle.mz_corpus.specs.Article.{Article}
use Rattle.mz_turns.proofs.NameLemmas.{AreArticles}
use Rattle.mz_turns.specs.Row.{Row, Claimed, Accepted, Rejected, is_settled, is_accepted, row_of, row_at}
use Rattle.mz_turns.specs.Dependencies.{start_row}
use Rattle.mz_turns.specs.Library.{library_of, is_used_by, environment}
use Rattle.mz_turns.specs.Machine.{Blocks, Step, take, publish, reclaim, Replays, start, turn}
use Rattle.mz_turns.specs.declared.turn.Turn.{Turn}
use Rattle.mz_turns.proofs.LibraryLemmas.{library_same, library_freed, library_start, library_blocks}
use Rattle.mz_turns.proofs.ExportLemmas.{from_filter, filter_in_order}
use Rattle.mz_turns.proofs.GoodLemmas.{Good, all_from}
use Rattle.mz_turns.proofs.MachineLemmas.{no_name, library_outcome, replays_good}

environment_within : (rows : List Row) (a : Article) → Sound (library_of rows) → AreExportsOf (library_of rows) (environment rows a)
environment_within rows a sound = (
  filter_in_order (is_used_by a) (library_of rows) sound.in_order,
  all_from (Contains (library_of rows)) (environment rows a) (λ e h. from_filter (is_used_by a) (library_of rows) e h),
)

publish_sound : (is_outcome : OutcomeRelation) → AnswersName is_outcome → KeepsSound is_outcome → (c : List Article) → AreArticles c → (rows after : List Row) → Good is_outcome c rows → Sound (library_of rows) → (r w : ℕ) (a : Article) (t : List ℕ) (o : Outcome) → slice_get c r ≡ Some a → row_at rows r ≡ Claimed w → is_outcome a.name a.vocabularies (environment rows a) t o → Blocks c (slice_set rows r (row_of o)) after → Sound (library_of after)
publish_sound is_outcome names keeps c corpus rows after g sound r w a t (outcome.Rejected fs) k h is b =
    subst Sound (sym (library_blocks c (slice_set rows r (Rejected fs)) after b ∙ library_same rows r (Rejected fs) (ap is_accepted h) refl)) sound
publish_sound is_outcome names keeps c corpus rows after g sound r w a t (outcome.Accepted e) k h is b =
    let u : is_settled (row_at rows r) ≡ false = ap is_settled h in
    let put = library_outcome is_outcome names c corpus rows g r a k u e (names a.name a.vocabularies (environment rows a) t e is) in
    let now : Sound (added e (library_of rows)) =
    keeps a.name a.vocabularies (environment rows a) t e (library_of rows) sound (no_name is_outcome names c corpus rows g r a k u) (environment_within rows a sound) is in
    subst Sound (sym (library_blocks c (slice_set rows r (Accepted e)) after b ∙ put)) now

step_sound : (is_outcome : OutcomeRelation) → AnswersName is_outcome → KeepsSound is_outcome → (c : List Article) → AreArticles c → (rows : List Row) (t : Turn) (after : List Row) → Good is_outcome c rows → Sound (library_of rows) → Step is_outcome c rows t after → Sound (library_of after)
step_sound is_outcome names keeps c corpus rows t after g sound (take r w rows1 ready) =
    subst Sound (sym (library_same rows r (Claimed w) (ap is_accepted ready.waits) refl)) sound
step_sound is_outcome names keeps c corpus rows t after g sound (publish r w a x o rows1 after1 k h tx is b) =
    publish_sound is_outcome names keeps c corpus rows after g sound r w a x o k h is b
step_sound is_outcome names keeps c corpus rows t after g sound (reclaim r w rows1 h) = subst Sound (sym (library_freed rows)) sound

pub replays_sound : (is_outcome : OutcomeRelation) → AnswersName is_outcome → KeepsSound is_outcome → (c : List Article) → AreArticles c → (ts : List Turn) (rows : List Row) → Replays is_outcome c ts rows → Sound (library_of rows)
replays_sound is_outcome names keeps c corpus ts rows (start rows1 b) =
    subst Sound (sym (library_blocks c (map start_row c) rows b ∙ library_start c)) built_in_sound
replays_sound is_outcome names keeps c corpus ts rows (turn ts1 t before after1 p s) =
    step_sound is_outcome names keeps c corpus before t rows (replays_good is_outcome names c corpus ts1 before p).0 (replays_sound is_outcome names keeps c corpus ts1 before p) s
