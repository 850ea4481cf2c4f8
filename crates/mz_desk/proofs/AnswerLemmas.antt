-- Each call of a desk has one answer.
use Rattle.std.proofs.lemmas.Bool.{cases_lt}
use Rattle.std.proofs.Common.{inl, inr, ◌≡◌, ◌<◌, ◌≤◌, ℕ, zero, suc, List, [], ◌∷◌, ◌++◌, length, refl, ap, sym, ◌∙◌, subst, arith, Bool, true, false}
use Rattle.std.specs.Prelude.{◌⊎◌, Option, Some, None, slice_get, slice_set}
use Rattle.std.specs.List.{filter}
use Rattle.std.proofs.lemmas.Option.{same_Some, slice_get_within}
use Rattle.mz_base.proofs.NameEqual.{Name-equal}
use Rattle.mz_corpus.specs.Article.{Article}
use Rattle.mz_corpus.specs.Corpus.{Corpus, IsCorpus}
use Rattle.mz_turns.specs.Row.{Row, Claimed, is_settled, is_claimed, is_accepted, row_of, row_at}
use Rattle.mz_turns.specs.Dependencies.{place_of}
use Rattle.mz_turns.specs.Library.{library_of, is_used_by, environment}
use Rattle.mz_turns.specs.declared.turn.Turn.TheVariants.{Take}
use Rattle.mz_turns.proofs.RowLemmas.{true_false, same_article, row_at-put_same}
use Rattle.mz_turns.proofs.NameLemmas.{articles_of, same_place}
use Rattle.mz_turns.proofs.LibraryLemmas.{library_same}
use Rattle.mz_turns.proofs.OnceLemmas.{blocks_once}
use Rattle.mz_rows.specs.Standing.{state_of}
use Rattle.mz_rows.specs.Table.{is_ready, number_of, number_at}
use Rattle.mz_rows.specs.declared.standing.RowState.{RowState}
use Rattle.mz_rows.proofs.ReadyLemmas.{ready_is, claimed_is}
use Rattle.mz_desk.specs.Job.{Job, Done}
use Rattle.mz_desk.specs.State.{State}
use Rattle.mz_desk.specs.Difference.{text_named, export_named, IsFirstDifference}
use Rattle.mz_desk.specs.Desk.{IsJobOf, IsClaimedFor, DiffersIn, Stands, IsStale, Strays, Takes, NoneIsReady, AllAreSettled, IsFirstUnsettled, Answers, Publishes, Reclaims}
use Rattle.mz_desk.specs.declared.job.Why.{Why}
use Rattle.mz_desk.specs.declared.job.Why.TheVariants.{NotClaimed, Text, Vocabulary, Export as OfExport}
use Rattle.mz_desk.specs.declared.claim.Claim.{Claim}
use Rattle.mz_desk.specs.declared.claim.Claim.TheVariants as claim
use Rattle.mz_desk.proofs.DifferenceLemmas.{same_number_of}
use Rattle.mz_desk.proofs.DeskLemmas.{named_at, row_at-waiting_beyond}

-- why a result is refused
claimed_strays : (c : List Article) (rows : List Row) (j : Job) (o : Option RowState) → IsClaimedFor c rows j → Strays c rows j (NotClaimed o) → ⊥
claimed_strays c rows j None k s = s (named_at c (place_of c j.name) k.article j.name k.is_at k.named)
claimed_strays c rows j (Some t) k s = s.2 (sym s.1 ∙ ap state_of k.claimed)

same_claim : (c : List Article) (rows : List Row) (j : Job) (k l : IsClaimedFor c rows j) → k.article ≡ l.article
same_claim c rows j k l = same_article c (place_of c j.name) k.article l.article k.is_at l.is_at

pub stands_strays : (c : List Article) (rows : List Row) (j : Job) (why : Why) → Stands c rows j → Strays c rows j why → ⊥
stands_strays c rows j (NotClaimed o) stands s = claimed_strays c rows j o stands.claim s
stands_strays c rows j Text stands s =
    s.1 (ap (λ a. a.text) (same_claim c rows j s.0 stands.claim) ∙ stands.input.text)
stands_strays c rows j (Vocabulary n) stands s =
    s.1.1.differs (ap (λ vs. text_named vs n.number) (ap (λ a. a.vocabularies) (same_claim c rows j s.0 stands.claim) ∙ stands.input.vocabularies))
stands_strays c rows j (OfExport n) stands s =
    s.1.2.differs (ap (λ es. export_named es n.number) (ap (environment rows) (same_claim c rows j s.0 stands.claim) ∙ stands.input.exports))

one_difference : {X : Type 0} (f g : ℕ → Option X) (m n : ℕ) → IsFirstDifference f g m → IsFirstDifference f g n → m ≡ n
one_difference f g m n h k = same_number_of m n (λ lt. h.differs (k.before m lt)) (λ lt. k.differs (h.before n lt))

one_part : (rows : List Row) (a : Article) (j : Job) (v w : Why) → DiffersIn rows a j v → DiffersIn rows a j w → v ≡ w
one_part rows a j (NotClaimed s) w h k = absurd h
one_part rows a j Text (NotClaimed s) h k = absurd k
one_part rows a j Text Text h k = refl
one_part rows a j Text (Vocabulary n) h k = absurd (h k.0)
one_part rows a j Text (OfExport n) h k = absurd (h k.0)
one_part rows a j (Vocabulary m) (NotClaimed s) h k = absurd k
one_part rows a j (Vocabulary m) Text h k = absurd (k h.0)
one_part rows a j (Vocabulary m) (Vocabulary n) h k =
    ap Vocabulary (Name-equal m n (one_difference (text_named a.vocabularies) (text_named j.vocabularies) m.number n.number h.1 k.1))
one_part rows a j (Vocabulary m) (OfExport n) h k = absurd (h.1.differs (ap (λ vs. text_named vs m.number) k.1))
one_part rows a j (OfExport m) (NotClaimed s) h k = absurd k
one_part rows a j (OfExport m) Text h k = absurd (k h.0)
one_part rows a j (OfExport m) (Vocabulary n) h k = absurd (k.1.differs (ap (λ vs. text_named vs n.number) h.1))
one_part rows a j (OfExport m) (OfExport n) h k =
    ap OfExport (Name-equal m n (one_difference (export_named (environment rows a)) (export_named j.exports) m.number n.number h.2 k.2))

one_stale : (c : List Article) (rows : List Row) (j : Job) (v w : Why) → IsStale c rows j v → IsStale c rows j w → v ≡ w
one_stale c rows j v w h k =
    one_part rows h.0.article j v w h.1 (subst (λ a. DiffersIn rows a j w) (same_claim c rows j k.0 h.0) k.1)

one_state : (c : List Article) (rows : List Row) (j : Job) (o p : Option RowState) → Strays c rows j (NotClaimed o) → Strays c rows j (NotClaimed p) → o ≡ p
one_state c rows j None None h k = refl
one_state c rows j None (Some t) h k = absurd (h k.0)
one_state c rows j (Some s) None h k = absurd (k h.0)
one_state c rows j (Some s) (Some t) h k = ap Some (sym h.1 ∙ k.1)

pub one_reason : (c : List Article) (rows : List Row) (j : Job) (v w : Why) → Strays c rows j v → Strays c rows j w → v ≡ w
one_reason c rows j (NotClaimed o) (NotClaimed p) h k = ap NotClaimed (one_state c rows j o p h k)
one_reason c rows j (NotClaimed o) Text h k = absurd (claimed_strays c rows j o k.0 h)
one_reason c rows j (NotClaimed o) (Vocabulary n) h k = absurd (claimed_strays c rows j o k.0 h)
one_reason c rows j (NotClaimed o) (OfExport n) h k = absurd (claimed_strays c rows j o k.0 h)
one_reason c rows j Text (NotClaimed p) h k = absurd (claimed_strays c rows j p h.0 k)
one_reason c rows j Text Text h k = refl
one_reason c rows j Text (Vocabulary n) h k = one_stale c rows j Text (Vocabulary n) h k
one_reason c rows j Text (OfExport n) h k = one_stale c rows j Text (OfExport n) h k
one_reason c rows j (Vocabulary m) (NotClaimed p) h k = absurd (claimed_strays c rows j p h.0 k)
one_reason c rows j (Vocabulary m) Text h k = one_stale c rows j (Vocabulary m) Text h k
one_reason c rows j (Vocabulary m) (Vocabulary n) h k = one_stale c rows j (Vocabulary m) (Vocabulary n) h k
one_reason c rows j (Vocabulary m) (OfExport n) h k = one_stale c rows j (Vocabulary m) (OfExport n) h k
one_reason c rows j (OfExport m) (NotClaimed p) h k = absurd (claimed_strays c rows j p h.0 k)
one_reason c rows j (OfExport m) Text h k = one_stale c rows j (OfExport m) Text h k
one_reason c rows j (OfExport m) (Vocabulary n) h k = one_stale c rows j (OfExport m) (Vocabulary n) h k
one_reason c rows j (OfExport m) (OfExport n) h k = one_stale c rows j (OfExport m) (OfExport n) h k

-- what a claim answers
numbered : (c : List Article) (r : ℕ) (a : Article) → slice_get c r ≡ Some a → number_at c r ≡ a.name.number
numbered c r a at = ap number_of at

same_row : (k : Corpus) → IsCorpus k → (rows : List Row) (r q : ℕ) → is_ready k.articles rows r ≡ true → is_ready k.articles rows q ≡ true → number_at k.articles r ≤ number_at k.articles q → number_at k.articles q ≤ number_at k.articles r → r ≡ q
same_row k corpus rows r q h i le ge =
    let c = k.articles in
    let a = ready_is c rows r h in
    let b = ready_is c rows q i in
    let number : a.article.name.number ≡ b.article.name.number = omega (arith, le, ge, numbered c r a.article a.is_at, numbered c q b.article b.is_at) in
    let articles = articles_of k corpus in
    sym (same_place c articles r a.article b.article.name a.is_at (Name-equal a.article.name b.article.name number))
    ∙ same_place c articles q b.article b.article.name b.is_at refl

same_job : (c : List Article) (rows : List Row) (r w : ℕ) (j k : Job) → IsJobOf c rows r w j → IsJobOf c rows r w k → j ≡ k
same_job c rows r w j k x y =
    let same = same_article c r x.article y.article x.is_at y.is_at in
    let texts : j.text ≡ k.text = same_Some j.text k.text (sym x.input.text ∙ (ap (λ a. a.text) same ∙ y.input.text)) in
    let vocabularies = sym x.input.vocabularies ∙ (ap (λ a. a.vocabularies) same ∙ y.input.vocabularies) in
    let exports = sym x.input.exports ∙ (ap (environment rows) same ∙ y.input.exports) in
    let names = sym x.named ∙ (ap (λ a. a.name) same ∙ y.named) in
    let numbers = x.row ∙ sym y.row in
    let workers = x.worker ∙ sym y.worker in
    λ i. record { row = numbers i; worker = workers i; name = names i; text = texts i; vocabularies = vocabularies i; exports = exports i }

ready_within : (c : List Article) (rows : List Row) (r : ℕ) → is_ready c rows r ≡ true → r < length c
ready_within c rows r h =
    let a = ready_is c rows r h in
    slice_get_within c r a.article a.is_at

same_takes : (s : State) → IsCorpus s.corpus → (w : ℕ) (new newer : State) (j k : Job) → Takes s w new j → Takes s w newer k → (new ≡ newer) × (j ≡ k)
same_takes s corpus w new newer j k x y =
    let c = s.corpus.articles in
    let row : j.row ≡ k.row = same_row s.corpus corpus s.rows j.row k.row x.ready y.ready (x.first k.row (ready_within c s.rows k.row y.ready) y.ready) (y.first j.row (ready_within c s.rows j.row x.ready) x.ready) in
    let job : j ≡ k = same_job c s.rows k.row w j k (subst (λ r. IsJobOf c s.rows r w j) row x.job) y.job in
    let rows = x.rows ∙ (ap (λ r. slice_set s.rows r (Claimed w)) row ∙ sym y.rows) in
    let turns = x.turns ∙ (ap (λ r. s.turns ++ Take r w ∷ []) row ∙ sym y.turns) in
    let corpora = x.corpus ∙ sym y.corpus in
    (λ i. record { corpus = corpora i; rows = rows i; turns = turns i }, job)

-- a job that was just taken stands
pub taken_stands : (s new : State) (w : ℕ) (j : Job) → IsCorpus s.corpus → length s.rows ≡ length s.corpus.articles → Takes s w new j → Stands new.corpus.articles new.rows j
taken_stands s new w j corpus whole x =
    let c = s.corpus.articles in
    let a = x.job.article in
    let r = j.row in
    let after = slice_set s.rows r (Claimed w) in
    let ready = ready_is c s.rows r x.ready in
    let l : r < length s.rows = subst (λ n. r < n) (sym whole) (slice_get_within c r a x.job.is_at) in
    let place : place_of c j.name ≡ r = same_place c (articles_of s.corpus corpus) r a j.name x.job.is_at x.job.named in
    let library : library_of after ≡ library_of s.rows = library_same s.rows r (Claimed w) (ap is_accepted ready.waits) refl in
    let stands : Stands c after j = record {
      claim = record {
        article = a;
        is_at = ap (slice_get c) place ∙ x.job.is_at;
        named = x.job.named;
        claimed = ap (row_at after) place ∙ (row_at-put_same s.rows r (Claimed w) l ∙ ap Claimed (sym x.job.worker));
      };
      input = record {
        text = x.job.input.text;
        vocabularies = x.job.input.vocabularies;
        exports = ap (filter (is_used_by a)) library ∙ x.job.input.exports;
      };
    } in
    subst (λ k. Stands k.articles new.rows j) (sym x.corpus) (subst (λ rows. Stands c rows j) (sym x.rows) stands)

one_claimed : (rows : List Row) (k l : ℕ) → is_claimed (row_at rows k) ≡ true → is_claimed (row_at rows l) ≡ true → ((q : ℕ) → q < k → is_claimed (row_at rows q) ≡ false) → ((q : ℕ) → q < l → is_claimed (row_at rows q) ≡ false) → k ≡ l
one_claimed rows k l h i first other =
    same_number_of k l (λ lt. true_false (is_claimed (row_at rows k)) h (other k lt)) (λ lt. true_false (is_claimed (row_at rows l)) i (first l lt))

pub claimed_within : (rows : List Row) (k : ℕ) → is_claimed (row_at rows k) ≡ true → (k < length rows) ⊎ (length rows ≤ k) → k < length rows
claimed_within rows k h (inl lt) = lt
claimed_within rows k h (inr le) = absurd (true_false (is_claimed (row_at rows k)) h (ap is_claimed (row_at-waiting_beyond rows k le)))

not_finished : (s : State) → length s.rows ≡ length s.corpus.articles → (k : ℕ) → is_claimed (row_at s.rows k) ≡ true → AllAreSettled s → ⊥
not_finished s whole k h all =
    let lt = claimed_within s.rows k h (cases_lt k (length s.rows)) in
    let w = claimed_is (row_at s.rows k) h in
    true_false (is_settled (row_at s.rows k)) (all k (subst (λ n. k < n) whole lt)) (ap is_settled w.1)

not_ready_now : (s : State) (r : ℕ) → is_ready s.corpus.articles s.rows r ≡ true → NoneIsReady s → ⊥
not_ready_now s r h none = true_false (is_ready s.corpus.articles s.rows r) h (none r (ready_within s.corpus.articles s.rows r h))

not_settled_now : (s : State) (r : ℕ) → is_ready s.corpus.articles s.rows r ≡ true → AllAreSettled s → ⊥
not_settled_now s r h all =
    let a = ready_is s.corpus.articles s.rows r h in
    true_false (is_settled (row_at s.rows r)) (all r (ready_within s.corpus.articles s.rows r h)) (ap is_settled a.waits)

pub one_answer : (s : State) → IsCorpus s.corpus → length s.rows ≡ length s.corpus.articles → (w : ℕ) (new newer : State) (x y : Claim) → Answers s w new x → Answers s w newer y → (new ≡ newer) × (x ≡ y)
one_answer s corpus whole w new newer (claim.Take j) (claim.Take k) h i =
    let same = same_takes s corpus w new newer j k h i in
    (same.0, ap claim.Take same.1)
one_answer s corpus whole w new newer (claim.Take j) (claim.NotYet k) h i = absurd (not_ready_now s j.row h.ready i.1)
one_answer s corpus whole w new newer (claim.Take j) claim.Finished h i = absurd (not_settled_now s j.row h.ready i.1)
one_answer s corpus whole w new newer (claim.NotYet k) (claim.Take j) h i = absurd (not_ready_now s j.row i.ready h.1)
one_answer s corpus whole w new newer (claim.NotYet k) (claim.NotYet l) h i =
    (h.0 ∙ sym i.0, ap claim.NotYet (one_claimed s.rows k l h.2 i.2 h.3 i.3))
one_answer s corpus whole w new newer (claim.NotYet k) claim.Finished h i = absurd (not_finished s whole k h.2 i.1)
one_answer s corpus whole w new newer claim.Finished (claim.Take j) h i = absurd (not_settled_now s j.row i.ready h.1)
one_answer s corpus whole w new newer claim.Finished (claim.NotYet k) h i = absurd (not_finished s whole k i.2 h.1)
one_answer s corpus whole w new newer claim.Finished claim.Finished h i = (h.0 ∙ sym i.0, refl)

-- what a publication and a reclaim leave
pub one_publication : (old new newer : State) (d : Done) → Publishes old new d → Publishes old newer d → new ≡ newer
one_publication old new newer d x y =
    let c = old.corpus.articles in
    let corpora = x.corpus ∙ sym y.corpus in
    let rows = blocks_once c (slice_set old.rows (place_of c d.job.name) (row_of d.outcome)) new.rows newer.rows x.rows y.rows in
    let turns = x.turns ∙ sym y.turns in
    λ i. record { corpus = corpora i; rows = rows i; turns = turns i }

-- one of the first rows is claimed, or none is
abbrev SomeClaimed : List Row → ℕ → Type 0
SomeClaimed rows n = (k : ℕ) × (k < n) × (is_claimed (row_at rows k) ≡ true)

abbrev NoneClaimed : List Row → ℕ → Type 0
NoneClaimed rows n = (k : ℕ) → k < n → is_claimed (row_at rows k) ≡ false

none_more_if : (rows : List Row) (n k : ℕ) → NoneClaimed rows n → is_claimed (row_at rows n) ≡ false → k < suc n → (k < n) ⊎ (n ≤ k) → is_claimed (row_at rows k) ≡ false
none_more_if rows n k none e lt (inl before) = none k before
none_more_if rows n k none e lt (inr le) =
    let same : k ≡ n = omega (arith, lt, le) in
    ap (λ j. is_claimed (row_at rows j)) same ∙ e

claimed_more : (rows : List Row) (n : ℕ) (b : Bool) → is_claimed (row_at rows n) ≡ b → SomeClaimed rows n ⊎ NoneClaimed rows n → SomeClaimed rows (suc n) ⊎ NoneClaimed rows (suc n)
claimed_more rows n true e before = inl (n, omega arith, e)
claimed_more rows n false e (inl (k, lt, h)) = inl (k, omega (arith, lt), h)
claimed_more rows n false e (inr none) = inr (λ k lt. none_more_if rows n k none e lt (cases_lt k n))

some_or_none : (rows : List Row) (n : ℕ) → SomeClaimed rows n ⊎ NoneClaimed rows n
some_or_none rows zero = inr (λ k lt. absurd (omega (arith, lt)))
some_or_none rows (suc n) = claimed_more rows n (is_claimed (row_at rows n)) refl (some_or_none rows n)

one_reclaim_if : (old new newer : State) → Reclaims old new → Reclaims old newer → SomeClaimed old.rows (length old.corpus.articles) ⊎ NoneClaimed old.rows (length old.corpus.articles) → new ≡ newer
one_reclaim_if old new newer x y (inl (k, lt, h)) =
    let first = x.some k lt h in
    let second = y.some k lt h in
    let corpora = x.corpus ∙ sym y.corpus in
    let rows = first.0 ∙ sym second.0 in
    let turns = first.1 ∙ sym second.1 in
    λ i. record { corpus = corpora i; rows = rows i; turns = turns i }
one_reclaim_if old new newer x y (inr none) = x.none none ∙ sym (y.none none)

pub one_reclaim : (old new newer : State) → Reclaims old new → Reclaims old newer → new ≡ newer
one_reclaim old new newer x y = one_reclaim_if old new newer x y (some_or_none old.rows (length old.corpus.articles))

pub one_unsettled : (s : State) (q r : ℕ) → IsFirstUnsettled s q → IsFirstUnsettled s r → q ≡ r
one_unsettled s q r x y =
    same_number_of q r (λ lt. true_false (is_settled (row_at s.rows q)) (y.2 q lt) x.1) (λ lt. true_false (is_settled (row_at s.rows r)) (x.2 r lt) y.1)
