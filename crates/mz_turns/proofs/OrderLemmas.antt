-- The verdicts made one after another are those of the articles, in each order.
use Rattle.std.proofs.Common.{◌≡◌, ◌<◌, ◌≤◌, ℕ, ◌+◌, List, [], ◌∷◌, ◌++◌, map, length, refl, ap, sym, ◌∙◌, subst, arith, Bool, true, false, inl, inr}
use Rattle.std.specs.Prelude.{◌⊎◌, ◌==◌, Some, slice_get, slice_set}
use Rattle.std.proofs.lemmas.Option.{slice_get_within}
use Rattle.std.proofs.lemmas.List.{ext_get_or}
use Rattle.std.proofs.lemmas.Bool.{cases_eq}
use Rattle.mz_core.specs.declared.outcome.Export.{Export}
use Rattle.mz_core.specs.declared.outcome.Outcome.{Outcome}
use Rattle.mz_axioms.specs.Checker.{OutcomeRelation, HasOneOutcome, AnswersName}
use Rattle.mz_corpus.specs.Article.{Article}
use Rattle.mz_turns.proofs.NameLemmas.{AreArticles}
use Rattle.mz_turns.specs.Row.{Row, Waiting, Claimed, Accepted, is_settled, is_accepted, freed, row_of, row_at}
use Rattle.mz_turns.specs.Dependencies.{direct_rows, all_rows, start_row}
use Rattle.mz_turns.specs.Library.{environment}
use Rattle.mz_turns.specs.Verdicts.{HasVerdict, unchecked, blocked, checked, FirstUnaccepted, here, later, AllAccepted, none, more, AreVerdicts}
use Rattle.mz_turns.specs.Machine.{unless_accepted, all_settled, all_accepted, first_unaccepted, Blocks, Step, take, publish, reclaim, Replays, start, turn}
use Rattle.mz_turns.specs.Order.{Judges, is_blocked, is_checked, Folds, done, next, IsSettled, FoldsAll, IsOrder, ends, goes, one_if, publications}
use Rattle.mz_turns.specs.declared.turn.Turn.{Turn}
use Rattle.mz_turns.specs.declared.turn.Turn.TheVariants.{Take, Publish, Reclaim}
use Rattle.mz_turns.proofs.RowLemmas.{export_of, exports_of, true_false, same_article, both, from_both, row_at-put_same, row_at-put_other, from_start, accepted_settled, outcome_settled}
use Rattle.mz_turns.proofs.NameLemmas.{equal_numbers, numbers_equal, contained}
use Rattle.mz_turns.proofs.ExportLemmas.{library_once}
use Rattle.mz_turns.proofs.VerdictLemmas.{verdict_once}
use Rattle.mz_turns.proofs.GoodLemmas.{Good, reach_accepted, environment_is}
use Rattle.mz_turns.proofs.MachineLemmas.{Grows, good_blocked, good_checked, start_good, step_good, blocks_good, replays_good}

abbrev IsJudged : OutcomeRelation → List Article → List Row → ℕ → Row → Type 0
IsJudged is_outcome c rows r x = HasVerdict is_outcome c r x × Good is_outcome c (slice_set rows r x) × (is_settled x ≡ true)

judged : (is_outcome : OutcomeRelation) → AnswersName is_outcome → (c : List Article) → AreArticles c → (rows : List Row) → Good is_outcome c rows → (r : ℕ) (a : Article) (x : Row) → slice_get c r ≡ Some a → row_at rows r ≡ Waiting → Judges is_outcome c rows a x → IsJudged is_outcome c rows r x
judged is_outcome names c corpus rows g r a x k w (is_blocked d b all first at) =
    let one = good_blocked is_outcome c rows g r a d b k (ap is_settled w) all first at in (one.0, one.1, refl)
judged is_outcome names c corpus rows g r a x k w (is_checked t o x1 all tx is e) =
    let one = good_checked is_outcome names c corpus rows g r a k (ap is_settled w) all t o tx is in
    subst (IsJudged is_outcome c rows r) e (one.0, one.1, outcome_settled o)

folds_good : (is_outcome : OutcomeRelation) → AnswersName is_outcome → (c : List Article) → AreArticles c → (rs : List ℕ) (rows after : List Row) → Folds is_outcome c rs rows after → Good is_outcome c rows → Good is_outcome c after
folds_good is_outcome names c corpus rs rows after (done rows1) g = g
folds_good is_outcome names c corpus rs rows after (next r rs1 a x rows1 after1 k w j rest) g =
    folds_good is_outcome names c corpus rs1 (slice_set rows r x) after rest (judged is_outcome names c corpus rows g r a x k w j).1

-- what is judged one after another is the verdict of each article
pub folds_all : (is_outcome : OutcomeRelation) → AnswersName is_outcome → (c : List Article) → AreArticles c → (order : List ℕ) (rows : List Row) → FoldsAll is_outcome c order rows → AreVerdicts is_outcome c rows
folds_all is_outcome names c corpus order rows f =
    let g = folds_good is_outcome names c corpus order (map start_row c) rows f.0 (start_good is_outcome c) in
    record { whole = g.whole; each = λ r l. g.settled r (f.1 r l) }

-- there is one such list of rows at most
pub verdicts_once : (is_outcome : OutcomeRelation) (c : List Article) → HasOneOutcome is_outcome → (rows others : List Row) → AreVerdicts is_outcome c rows → AreVerdicts is_outcome c others → rows ≡ others
verdicts_once is_outcome c once rows others f g =
    ext_get_or Waiting rows others (f.whole ∙ sym g.whole) (λ r l.
    let w : r < length c = subst (λ n. r < n) f.whole l in
    verdict_once is_outcome c once r (row_at rows r) (row_at others r) (f.each r w) (g.each r w))

-- where all rows are settled, they are the verdicts
pub settled_verdicts : (is_outcome : OutcomeRelation) → AnswersName is_outcome → (c : List Article) → AreArticles c → (ts : List Turn) (rows : List Row) → Replays is_outcome c ts rows → IsSettled c rows → AreVerdicts is_outcome c rows
settled_verdicts is_outcome names c corpus ts rows p all =
    let g = (replays_good is_outcome names c corpus ts rows p).0 in
    record { whole = g.whole; each = λ r l. g.settled r (all r l) }

-- each turn keeps what was settled
pub row_at-turns_grow : (is_outcome : OutcomeRelation) → AnswersName is_outcome → (c : List Article) → AreArticles c → (ts : List Turn) (t : Turn) (rows after : List Row) → Replays is_outcome c ts rows → Step is_outcome c rows t after → (q : ℕ) → is_settled (row_at rows q) ≡ true → row_at after q ≡ row_at rows q
row_at-turns_grow is_outcome names c corpus ts t rows after p s =
    let g = replays_good is_outcome names c corpus ts rows p in (step_good is_outcome names c corpus rows t after s g.0 g.1).2

-- each row is published once at most
publications_append : (r : ℕ) (ts us : List Turn) → publications r (ts ++ us) ≡ publications r ts + publications r us
publications_append r [] us = omega arith
publications_append r (Take q w ∷ ts) us = publications_append r ts us
publications_append r (Publish q w ∷ ts) us = omega (arith, publications_append r ts us)
publications_append r (Reclaim ∷ ts) us = publications_append r ts us

abbrev IsCounted : ℕ → List Turn → List Row → Type 0
IsCounted r ts rows = (publications r ts ≤ 1) × (is_settled (row_at rows r) ≡ false → publications r ts ≡ 0)

unsettled_before : (rows after : List Row) → Grows rows after → (r : ℕ) → is_settled (row_at after r) ≡ false → (b : Bool) → is_settled (row_at rows r) ≡ b → is_settled (row_at rows r) ≡ false
unsettled_before rows after g r h true e = absurd (true_false (is_settled (row_at after r)) (ap is_settled (g r e) ∙ e) h)
unsettled_before rows after g r h false e = e

one_same : (q r : ℕ) → q ≡ r → one_if (q == r) ≡ 1
one_same q r e = ap one_if (numbers_equal q r e)

other_if : (q r : ℕ) → (q ≡ r → ⊥) → (b : Bool) → (q == r) ≡ b → one_if b ≡ 0
other_if q r n true e = absurd (n (equal_numbers q r e))
other_if q r n false e = refl

one_other : (q r : ℕ) → (q ≡ r → ⊥) → one_if (q == r) ≡ 0
one_other q r n = other_if q r n (q == r) refl

counted_publish : (ts : List Turn) (rows after : List Row) (q w r : ℕ) → is_settled (row_at rows q) ≡ false → is_settled (row_at after q) ≡ true → Grows rows after → IsCounted r ts rows → (q ≡ r) ⊎ (q ≡ r → ⊥) → IsCounted r (ts ++ Publish q w ∷ []) after
counted_publish ts rows after q w r u s g k (inl e) =
    let none : publications r ts ≡ 0 = k.1 (ap (λ j. is_settled (row_at rows j)) (sym e) ∙ u) in
    let one = publications_append r ts (Publish q w ∷ []) in
    let same = one_same q r e in (
      omega (arith, none, one, same),
      λ h. absurd (true_false (is_settled (row_at after r)) (ap (λ j. is_settled (row_at after j)) (sym e) ∙ s) h),
    )
counted_publish ts rows after q w r u s g k (inr n) =
    let one = publications_append r ts (Publish q w ∷ []) in
    let other = one_other q r n in (
      omega (arith, one, other, k.0),
      λ h. let before = k.1 (unsettled_before rows after g r h (is_settled (row_at rows r)) refl) in omega (arith, one, other, before),
    )

counted_other : (ts : List Turn) (t : Turn) (rows after : List Row) (r : ℕ) → publications r (t ∷ []) ≡ 0 → Grows rows after → IsCounted r ts rows → IsCounted r (ts ++ t ∷ []) after
counted_other ts t rows after r z g k =
    let one = publications_append r ts (t ∷ []) in (
      omega (arith, one, z, k.0),
      λ h. let before = k.1 (unsettled_before rows after g r h (is_settled (row_at rows r)) refl) in omega (arith, one, z, before),
    )

settled_after : (is_outcome : OutcomeRelation) → AnswersName is_outcome → (c : List Article) → AreArticles c → (rows after : List Row) → Good is_outcome c rows → (q w : ℕ) (a : Article) (t : List ℕ) (o : Outcome) → slice_get c q ≡ Some a → row_at rows q ≡ Claimed w → a.text ≡ Some t → is_outcome a.name a.vocabularies (environment rows a) t o → Blocks c (slice_set rows q (row_of o)) after → is_settled (row_at after q) ≡ true
settled_after is_outcome names c corpus rows after g q w a t o k h tx is b =
    let l : q < length rows = subst (λ n. q < n) (sym g.whole) (slice_get_within c q a k) in
    let next = (good_checked is_outcome names c corpus rows g q a k (ap is_settled h) (g.claims q w a k h) t o tx is).1 in
    let put : is_settled (row_at (slice_set rows q (row_of o)) q) ≡ true = ap is_settled (row_at-put_same rows q (row_of o) l) ∙ outcome_settled o in
    let all = blocks_good is_outcome c (slice_set rows q (row_of o)) after b next in
    ap is_settled (all.2 q put) ∙ put

counted_step : (is_outcome : OutcomeRelation) → AnswersName is_outcome → (c : List Article) → AreArticles c → (ts : List Turn) (t : Turn) (rows after : List Row) (r : ℕ) → Good is_outcome c rows → Step is_outcome c rows t after → Grows rows after → IsCounted r ts rows → IsCounted r (ts ++ t ∷ []) after
counted_step is_outcome names c corpus ts t rows after r old (take q w rows1 ready) g k = counted_other ts (Take q w) rows (slice_set rows q (Claimed w)) r refl g k
counted_step is_outcome names c corpus ts t rows after r old (publish q w a x o rows1 after1 j h tx is b) g k =
    counted_publish ts rows after q w r (ap is_settled h) (settled_after is_outcome names c corpus rows after old q w a x o j h tx is b) g k (cases_eq q r)
counted_step is_outcome names c corpus ts t rows after r old (reclaim q w rows1 h) g k = counted_other ts Reclaim rows (map freed rows) r refl g k

pub published_once : (is_outcome : OutcomeRelation) → AnswersName is_outcome → (c : List Article) → AreArticles c → (ts : List Turn) (rows : List Row) (r : ℕ) → Replays is_outcome c ts rows → IsCounted r ts rows
published_once is_outcome names c corpus ts rows r (start rows1 b) = (omega arith, λ h. refl)
published_once is_outcome names c corpus ts rows r (turn ts1 t before after1 p s) =
    counted_step is_outcome names c corpus ts1 t before rows r (replays_good is_outcome names c corpus ts1 before p).0 s (row_at-turns_grow is_outcome names c corpus ts1 t before rows p s) (published_once is_outcome names c corpus ts1 before r p)

-- the verdicts are made one after another, in any order that has each article after its dependencies
abbrev IsPart : List Row → List Row → Type 0
IsPart whole rows = (q : ℕ) → is_settled (row_at rows q) ≡ true → row_at rows q ≡ row_at whole q

verdict_within : (is_outcome : OutcomeRelation) (c : List Article) (r : ℕ) (x : Row) → HasVerdict is_outcome c r x → r < length c
verdict_within is_outcome c r x (unchecked r1 a x1 k s i) = slice_get_within c r a k
verdict_within is_outcome c r x (blocked r1 a d b k s f at) = slice_get_within c r a k
verdict_within is_outcome c r x (checked r1 a t ds es library o x1 k s tx direct all is_library is e) = slice_get_within c r a k

same_row : (is_outcome : OutcomeRelation) (c : List Article) → HasOneOutcome is_outcome → (whole rows : List Row) → AreVerdicts is_outcome c whole → IsPart whole rows → (d : ℕ) (x : Row) → is_settled (row_at rows d) ≡ true → HasVerdict is_outcome c d x → row_at rows d ≡ x
same_row is_outcome c once whole rows f p d x s h =
    p d s ∙ verdict_once is_outcome c once d (row_at whole d) x (f.each d (verdict_within is_outcome c d x h)) h

first_unaccepted-bad_found : (is_outcome : OutcomeRelation) (c : List Article) → HasOneOutcome is_outcome → (whole rows : List Row) → AreVerdicts is_outcome c whole → IsPart whole rows → (ds : List ℕ) → all_settled rows ds ≡ true → (d : ℕ) → FirstUnaccepted is_outcome c ds d → first_unaccepted rows ds ≡ Some d
first_unaccepted-bad_found is_outcome c once whole rows f p ds s d (here d1 ds1 x h i) =
    let q = both (is_settled (row_at rows d1)) (all_settled rows ds1) s in
    let e : row_at rows d1 ≡ x = same_row is_outcome c once whole rows f p d1 x q.0 h in
    ap (λ b. unless_accepted b d1 (first_unaccepted rows ds1)) (ap is_accepted e ∙ i)
first_unaccepted-bad_found is_outcome c once whole rows f p ds s d (later d1 ds1 y b h rest) =
    let q = both (is_settled (row_at rows d1)) (all_settled rows ds1) s in
    let e : row_at rows d1 ≡ Accepted y = same_row is_outcome c once whole rows f p d1 (Accepted y) q.0 h in
    ap (λ b. unless_accepted b d1 (first_unaccepted rows ds1)) (ap is_accepted e) ∙ first_unaccepted-bad_found is_outcome c once whole rows f p ds1 q.1 d rest

all_found : (is_outcome : OutcomeRelation) (c : List Article) → HasOneOutcome is_outcome → (whole rows : List Row) → AreVerdicts is_outcome c whole → IsPart whole rows → (ds : List ℕ) → all_settled rows ds ≡ true → (es : List Export) → AllAccepted is_outcome c ds es → (all_accepted rows ds ≡ true) × (exports_of rows ds ≡ es)
all_found is_outcome c once whole rows f p ds s es none = (refl, refl)
all_found is_outcome c once whole rows f p ds s es (more d1 ds1 y es1 h rest) =
    let q = both (is_settled (row_at rows d1)) (all_settled rows ds1) s in
    let e : row_at rows d1 ≡ Accepted y = same_row is_outcome c once whole rows f p d1 (Accepted y) q.0 h in
    let r = all_found is_outcome c once whole rows f p ds1 q.1 es1 rest in (
      from_both (is_accepted (row_at rows d1)) (all_accepted rows ds1) (ap is_accepted e) r.0,
      λ i. export_of (e i) ++ r.1 i,
    )

accepted_settles : (rows : List Row) (ds : List ℕ) → all_accepted rows ds ≡ true → all_settled rows ds ≡ true
accepted_settles rows [] h = refl
accepted_settles rows (d ∷ ds) h =
    let p = both (is_accepted (row_at rows d)) (all_accepted rows ds) h in
    from_both (is_settled (row_at rows d)) (all_settled rows ds) (accepted_settled (row_at rows d) p.0) (accepted_settles rows ds p.1)

judge_of : (is_outcome : OutcomeRelation) → HasOneOutcome is_outcome → AnswersName is_outcome → (c : List Article) → AreArticles c → (whole rows : List Row) → AreVerdicts is_outcome c whole → IsPart whole rows → Good is_outcome c rows → (r : ℕ) (a : Article) (x : Row) → slice_get c r ≡ Some a → row_at rows r ≡ Waiting → all_settled rows (direct_rows c a) ≡ true → HasVerdict is_outcome c r x → Judges is_outcome c rows a x
judge_of is_outcome once names c corpus whole rows f p g r a x k w s (unchecked r1 b x1 j e i) =
    let waits : start_row a ≡ Waiting = g.unsettled r a k (ap is_settled w) in
    absurd (true_false (is_settled x) i (ap is_settled (sym e ∙ (ap start_row (same_article c r b a j k) ∙ waits))))
judge_of is_outcome once names c corpus whole rows f p g r a x k w s (blocked r1 b d m j v h at) =
    let ba = same_article c r b a j k in
    is_blocked d m s (first_unaccepted-bad_found is_outcome c once whole rows f p (direct_rows c a) s d (subst (λ y. FirstUnaccepted is_outcome c (direct_rows c y) d) ba h)) at
judge_of is_outcome once names c corpus whole rows f p g r a x k w s (checked r1 b t ds es library o x1 j v tx direct all is_library is e) =
    let ba = same_article c r b a j k in
    let found = all_found is_outcome c once whole rows f p (direct_rows c a) s ds (subst (λ y. AllAccepted is_outcome c (direct_rows c y) ds) ba direct) in
    let reached : all_accepted rows (all_rows c a) ≡ true = reach_accepted is_outcome c corpus rows g r a k found.0 in
    let others = all_found is_outcome c once whole rows f p (all_rows c a) (accepted_settles rows (all_rows c a) reached) es (subst (λ y. AllAccepted is_outcome c (all_rows c y) es) ba all) in
    let same : library ≡ environment rows a = library_once es (exports_of rows (all_rows c a)) library (environment rows a) (sym others.1) is_library (environment_is is_outcome names c corpus rows g a (contained c r a k)) in
    is_checked t o x found.0 (sym (ap (λ y. y.text) ba) ∙ tx)
    (subst (λ y. is_outcome y.name y.vocabularies (environment rows a) t o) ba (subst (λ xs. is_outcome b.name b.vocabularies xs t o) same is)) e

row_at-part_put_if : (whole rows : List Row) (r : ℕ) → IsPart whole rows → r < length rows → (q : ℕ) → (q ≡ r) ⊎ (q ≡ r → ⊥) → is_settled (row_at (slice_set rows r (row_at whole r)) q) ≡ true → row_at (slice_set rows r (row_at whole r)) q ≡ row_at whole q
row_at-part_put_if whole rows r p l q (inl e) h =
    ap (λ k. row_at (slice_set rows r (row_at whole r)) k) e ∙ (row_at-put_same rows r (row_at whole r) l ∙ ap (row_at whole) (sym e))
row_at-part_put_if whole rows r p l q (inr n) h =
    let o = row_at-put_other rows r q (row_at whole r) n in o ∙ p q (ap is_settled (sym o) ∙ h)

fold_from : (is_outcome : OutcomeRelation) → HasOneOutcome is_outcome → AnswersName is_outcome → (c : List Article) → AreArticles c → (whole rows : List Row) → AreVerdicts is_outcome c whole → IsPart whole rows → Good is_outcome c rows → (rs : List ℕ) → IsOrder c rows rs → (after : List Row) × Folds is_outcome c rs rows after × IsSettled c after
fold_from is_outcome once names c corpus whole rows f p g rs (ends rows1 all) = (rows, done rows, all)
fold_from is_outcome once names c corpus whole rows f p g rs (goes r rs1 a rows1 k w s rest) =
    let m : r < length c = slice_get_within c r a k in
    let n : r < length rows = subst (λ z. r < z) (sym g.whole) m in
    let j = judge_of is_outcome once names c corpus whole rows f p g r a (row_at whole r) k w s (f.each r m) in
    let is = judged is_outcome names c corpus rows g r a (row_at whole r) k w j in
    let next_part : IsPart whole (slice_set rows r (row_at whole r)) = λ q h. row_at-part_put_if whole rows r p n q (cases_eq q r) h in
    let more_rows = fold_from is_outcome once names c corpus whole (slice_set rows r (row_at whole r)) f next_part is.1 rs1 (rest (row_at whole r) is.2) in
    (more_rows.0, next r rs1 a (row_at whole r) rows more_rows.0 k w j more_rows.1, more_rows.2)

start_part : (is_outcome : OutcomeRelation) (c : List Article) → HasOneOutcome is_outcome → (whole : List Row) → AreVerdicts is_outcome c whole → IsPart whole (map start_row c)
start_part is_outcome c once whole f = λ q h.
    let g = start_good is_outcome c in
    let a = from_start c q h in
    verdict_once is_outcome c once q (row_at (map start_row c) q) (row_at whole q) (g.settled q h) (f.each q (slice_get_within c q a.0 a.1))

-- the verdicts of all articles are made one after another in each order
pub fold_in_turn : (is_outcome : OutcomeRelation) → HasOneOutcome is_outcome → AnswersName is_outcome → (c : List Article) → AreArticles c → (whole : List Row) → AreVerdicts is_outcome c whole → (order : List ℕ) → IsOrder c (map start_row c) order → FoldsAll is_outcome c order whole
fold_in_turn is_outcome once names c corpus whole f order o =
    let g = start_good is_outcome c in
    let t = fold_from is_outcome once names c corpus whole (map start_row c) f (start_part is_outcome c once whole f) g order o in
    let same : t.0 ≡ whole = verdicts_once is_outcome c once t.0 whole (folds_all is_outcome names c corpus order t.0 (t.1, t.2)) f in
    subst (λ rows. FoldsAll is_outcome c order rows) same (t.1, t.2)
