-- What the calls of a desk need.
use Rattle.std.proofs.lemmas.Bool.{cases_lt}
use Rattle.std.proofs.Common.{inl, inr, ◌≡◌, ◌<◌, ◌≤◌, ◌+◌, ℕ, zero, suc, List, [], ◌∷◌, ◌++◌, map, length, refl, ap, sym, ◌∙◌, subst, arith, Bool, true, false}
use Rattle.std.specs.Prelude.{◌⊎◌, Option, Some, None, slice_get, slice_set, Contains}
use Rattle.std.specs.List.{sum_by}
use Rattle.std.proofs.lemmas.Option.{same_Some, none-some, slice_get_within}
use Rattle.std.proofs.lemmas.List.Sums.{sum_by-cons}
use Rattle.mz_base.specs.declared.name.Name.{Name}
use Rattle.mz_core.specs.declared.outcome.Outcome.{Outcome}
use Rattle.mz_core.specs.declared.outcome.Outcome.TheVariants as outcome
use Rattle.mz_axioms.specs.Checker.{OutcomeRelation, AnswersName}
use Rattle.mz_corpus.specs.Article.{Article, is_cyclic}
use Rattle.mz_corpus.specs.Corpus.{Corpus, names_of, IsCorpus}
use Rattle.mz_base.proofs.NameEqual.{Name-equal}
use Rattle.mz_turns.specs.Row.{Row, Waiting, Claimed, Accepted, Rejected, Blocked, Cyclic, Missing, is_settled, is_claimed, freed, row_of, row_at, claim_weight}
use Rattle.mz_turns.specs.Dependencies.{place_of, start_of, start_row}
use Rattle.mz_turns.specs.Library.{environment}
use Rattle.mz_turns.specs.Machine.{Blocks, Step, take, publish, reclaim, Replays, start, turn}
use Rattle.mz_turns.specs.declared.turn.Turn.{Turn}
use Rattle.mz_turns.specs.declared.turn.Turn.TheVariants.{Take, Publish, Reclaim}
use Rattle.mz_axioms.proofs.AddedLemmas.{here, there}
use Rattle.mz_turns.proofs.NameLemmas.{articles_of}
use Rattle.mz_turns.proofs.GoodLemmas.{Good}
use Rattle.mz_turns.proofs.MachineLemmas.{replays_good, name_taken}
use Rattle.mz_rows.specs.Table.{is_ready}
use Rattle.mz_rows.proofs.ReadyLemmas.{ready_is, claimed_is, sum-weight_put}
use Rattle.mz_rows.proofs.StoredLemmas.{some_article}
use Rattle.mz_rows.proofs.ReachLemmas.{reached_of}
use Rattle.mz_rows.proofs.ProgressLemmas.{none_ready, unclaimed_wait, all_settled_rows}
use Rattle.mz_desk.specs.Job.{Job, IsOutcomeOf}
use Rattle.mz_desk.specs.Found.{IsFreshFor}
use Rattle.mz_desk.specs.Desk.{HasText, IsInputOf, Stands}

pub good : (is_outcome : OutcomeRelation) → AnswersName is_outcome → (k : Corpus) → IsCorpus k → (ts : List Turn) (rows : List Row) → Replays is_outcome k.articles ts rows → Good is_outcome k.articles rows
good is_outcome names k corpus ts rows p = (replays_good is_outcome names k.articles (articles_of k corpus) ts rows p).0

turned : (is_outcome : OutcomeRelation) (c : List Article) (ts ts2 : List Turn) (rows after after2 : List Row) (t : Turn) → Replays is_outcome c ts rows → ts2 ≡ ts ++ t ∷ [] → after2 ≡ after → Step is_outcome c rows t after → Replays is_outcome c ts2 after2
turned is_outcome c ts ts2 rows after after2 t p e f s =
    subst (λ x. Replays is_outcome c x after2) (sym e) (subst (λ y. Replays is_outcome c (ts ++ t ∷ []) y) (sym f) (turn ts t rows after p s))

-- a row is taken
pub taken_turn : (is_outcome : OutcomeRelation) (c : List Article) (ts ts2 : List Turn) (rows after : List Row) (r w : ℕ) → Replays is_outcome c ts rows → is_ready c rows r ≡ true → ts2 ≡ ts ++ Take r w ∷ [] → after ≡ slice_set rows r (Claimed w) → Replays is_outcome c ts2 after
taken_turn is_outcome c ts ts2 rows after r w p h e f =
    turned is_outcome c ts ts2 rows (slice_set rows r (Claimed w)) after (Take r w) p e f (take r w rows (ready_is c rows r h))

pub sum_by-taken_count : (c : List Article) (rows after : List Row) (r w : ℕ) → length rows ≡ length c → is_ready c rows r ≡ true → after ≡ slice_set rows r (Claimed w) → sum_by claim_weight after ≡ sum_by claim_weight rows + 1
sum_by-taken_count c rows after r w whole h e =
    let ready = ready_is c rows r h in
    let l : r < length rows = subst (λ n. r < n) (sym whole) (slice_get_within c r ready.article ready.is_at) in
    let s : sum_by claim_weight (slice_set rows r (Claimed w)) + 0 ≡ sum_by claim_weight rows + 1 = sum-weight_put claim_weight rows r (Claimed w) Waiting l ready.waits in
    ap (sum_by claim_weight) e ∙ omega (arith, s)

start_text : (o : Option (List ℕ)) (b : Bool) → start_of o b ≡ Waiting → o ≡ None → ⊥
start_text None b h e = cc
start_text (Some t) b h e = cc

pub ready_text : (is_outcome : OutcomeRelation) (c : List Article) (rows : List Row) → Good is_outcome c rows → (r : ℕ) → is_ready c rows r ≡ true → HasText c r
ready_text is_outcome c rows g r h = λ a at none.
    let ready = ready_is c rows r h in
    start_text a.text (is_cyclic a) (g.unsettled r a at (ap is_settled ready.waits)) none

-- a result is published
own_outcome : (is_outcome : OutcomeRelation) (rows : List Row) (a : Article) (j : Job) (o : Outcome) → a.name ≡ j.name → IsInputOf rows a j → IsOutcomeOf is_outcome j o → is_outcome a.name a.vocabularies (environment rows a) j.text o
own_outcome is_outcome rows a j o named input is =
    subst (λ n. is_outcome n a.vocabularies (environment rows a) j.text o) (sym named)
    (subst (λ vs. is_outcome j.name vs (environment rows a) j.text o) (sym input.vocabularies)
    (subst (λ es. is_outcome j.name j.vocabularies es j.text o) (sym input.exports) is))

pub published_turn : (is_outcome : OutcomeRelation) (c : List Article) (ts ts2 : List Turn) (rows after : List Row) (j : Job) (o : Outcome) → Replays is_outcome c ts rows → Stands c rows j → IsOutcomeOf is_outcome j o → Blocks c (slice_set rows (place_of c j.name) (row_of o)) after → ts2 ≡ ts ++ Publish (place_of c j.name) j.worker ∷ [] → Replays is_outcome c ts2 after
published_turn is_outcome c ts ts2 rows after j o p stands is b e =
    let k = stands.claim in
    let is2 = own_outcome is_outcome rows k.article j o k.named stands.input is in
    turned is_outcome c ts ts2 rows after after (Publish (place_of c j.name) j.worker) p e refl
    (publish (place_of c j.name) j.worker k.article j.text o rows after k.is_at k.claimed stands.input.text is2 b)

outcome_weight : (o : Outcome) → claim_weight (row_of o) ≡ 0
outcome_weight (outcome.Accepted e) = refl
outcome_weight (outcome.Rejected fs) = refl

pub sum_by-published_count : (c : List Article) (rows : List Row) (j : Job) (o : Outcome) → length rows ≡ length c → Stands c rows j → sum_by claim_weight (slice_set rows (place_of c j.name) (row_of o)) + 1 ≡ sum_by claim_weight rows
sum_by-published_count c rows j o whole stands =
    let k = stands.claim in
    let l : place_of c j.name < length rows = subst (λ n. place_of c j.name < n) (sym whole) (slice_get_within c (place_of c j.name) k.article k.is_at) in
    let s : sum_by claim_weight (slice_set rows (place_of c j.name) (row_of o)) + 1 ≡ sum_by claim_weight rows + claim_weight (row_of o) = sum-weight_put claim_weight rows (place_of c j.name) (row_of o) (Claimed j.worker) l k.claimed in
    omega (arith, s, outcome_weight o)

pub published_fresh : (is_outcome : OutcomeRelation) → AnswersName is_outcome → (k : Corpus) → IsCorpus k → (rows : List Row) → Good is_outcome k.articles rows → (j : Job) (o : Outcome) → Stands k.articles rows j → IsOutcomeOf is_outcome j o → IsFreshFor rows o
published_fresh is_outcome names k corpus rows g j (outcome.Rejected fs) stands is = tt
published_fresh is_outcome names k corpus rows g j (outcome.Accepted e) stands is = λ q f at number.
    let claim = stands.claim in
    let own : e.name ≡ j.name = names j.name j.vocabularies j.exports j.text e is in
    let same : claim.article.name ≡ f.name = claim.named ∙ (sym own ∙ Name-equal e.name f.name number) in
    name_taken is_outcome names k.articles (articles_of k corpus) rows g (place_of k.articles j.name) claim.article claim.is_at (ap is_settled claim.claimed) q f at same

-- claims are taken away
pub reclaimed_turn : (is_outcome : OutcomeRelation) (c : List Article) (ts ts2 : List Turn) (rows after : List Row) (r : ℕ) → Replays is_outcome c ts rows → is_claimed (row_at rows r) ≡ true → ts2 ≡ ts ++ Reclaim ∷ [] → after ≡ map freed rows → Replays is_outcome c ts2 after
reclaimed_turn is_outcome c ts ts2 rows after r p h e f =
    let w = claimed_is (row_at rows r) h in
    turned is_outcome c ts ts2 rows (map freed rows) after Reclaim p e f (reclaim r w.0 rows w.1)

pub some_claim : (rows : List Row) (r : ℕ) → r < length rows → is_claimed (row_at rows r) ≡ true → 1 ≤ sum_by claim_weight rows
some_claim rows r l h =
    let w = claimed_is (row_at rows r) h in
    let s : sum_by claim_weight (slice_set rows r Waiting) + 1 ≡ sum_by claim_weight rows + 0 = sum-weight_put claim_weight rows r Waiting (Claimed w.0) l w.1 in
    omega (arith, s)

freed_weight : (x : Row) → claim_weight (freed x) ≡ 0
freed_weight Waiting = refl
freed_weight (Claimed w) = refl
freed_weight (Accepted e) = refl
freed_weight (Rejected fs) = refl
freed_weight (Blocked n) = refl
freed_weight Cyclic = refl
freed_weight Missing = refl

pub freed_count : (rows : List Row) → sum_by claim_weight (map freed rows) ≡ 0
freed_count [] = refl
freed_count (x ∷ rows) = omega (arith, sum_by-cons claim_weight (freed x) (map freed rows), freed_weight x, freed_count rows)

-- at the start
start_weight : (o : Option (List ℕ)) (b : Bool) → claim_weight (start_of o b) ≡ 0
start_weight None b = refl
start_weight (Some t) true = refl
start_weight (Some t) false = refl

pub start_count : (c : List Article) → sum_by claim_weight (map start_row c) ≡ 0
start_count [] = refl
start_count (a ∷ c) = omega (arith, sum_by-cons claim_weight (start_row a) (map start_row c), start_weight a.text (is_cyclic a), start_count c)

pub started : (is_outcome : OutcomeRelation) (c : List Article) (ts : List Turn) (begun rows : List Row) → ts ≡ [] → begun ≡ map start_row c → Blocks c begun rows → Replays is_outcome c ts rows
started is_outcome c ts begun rows e f b = subst (λ x. Replays is_outcome c x rows) (sym e) (start rows (subst (λ y. Blocks c y rows) f b))

-- the name of the article of a row
pub named_at : (c : List Article) (r : ℕ) (a : Article) (n : Name) → slice_get c r ≡ Some a → a.name ≡ n → Contains (names_of c) n
named_at [] r a n h e = absurd (none-some a h)
named_at (b ∷ c) zero a n h e = subst (λ m. Contains (names_of (b ∷ c)) m) (ap (λ x. x.name) (same_Some b a h) ∙ e) (here b.name (names_of c))
named_at (b ∷ c) (suc r) a n h e = there b.name n (names_of c) (named_at c r a n h e)

-- no row is claimed
pub row_at-waiting_beyond : (rows : List Row) (k : ℕ) → length rows ≤ k → row_at rows k ≡ Waiting
row_at-waiting_beyond [] k h = refl
row_at-waiting_beyond (x ∷ rows) zero h = absurd (omega (arith, h))
row_at-waiting_beyond (x ∷ rows) (suc k) h = row_at-waiting_beyond rows k (omega (arith, h))

unclaimed_at : (rows : List Row) → ((r : ℕ) → r < length rows → is_claimed (row_at rows r) ≡ false) → (k : ℕ) → (k < length rows) ⊎ (length rows ≤ k) → is_claimed (row_at rows k) ≡ false
unclaimed_at rows free k (inl lt) = free k lt
unclaimed_at rows free k (inr le) = ap is_claimed (row_at-waiting_beyond rows k le)

-- where no row is ready and none is claimed, all are settled
pub all_finished : (is_outcome : OutcomeRelation) → AnswersName is_outcome → (k : Corpus) → IsCorpus k → (ts : List Turn) (rows : List Row) → Replays is_outcome k.articles ts rows → ((r : ℕ) → r < length k.articles → is_ready k.articles rows r ≡ false) → ((r : ℕ) → r < length rows → is_claimed (row_at rows r) ≡ false) → (r : ℕ) → r < length k.articles → is_settled (row_at rows r) ≡ true
all_finished is_outcome names k corpus ts rows p none free = λ r lt.
    let g = good is_outcome names k corpus ts rows p in
    let a = some_article k.articles r lt in
    all_settled_rows k.articles (articles_of k corpus) (reached_of k corpus) rows
    (unclaimed_wait is_outcome k.articles rows g (λ q. unclaimed_at rows free q (cases_lt q (length rows)))) (none_ready k.articles rows none) r a.0 a.1
