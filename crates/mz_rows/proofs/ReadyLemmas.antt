-- What the tests on rows mean.
use Rattle.std.proofs.Common.{◌≡◌, ◌<◌, ◌+◌, ℕ, List, [], ◌∷◌, map, length, refl, ap, sym, ◌∙◌, subst, Bool, true, false}
use Rattle.std.specs.Prelude.{Option, Some, None, slice_get, slice_set, Contains}
use Rattle.std.specs.List.{sum_by}
use Rattle.std.proofs.lemmas.Option.{same_Some, none-some, slice_get_within}
use Rattle.std.proofs.lemmas.List.Sums.{sum_by-set}
use Rattle.mz_base.specs.declared.name.Name.{Name}
use Rattle.mz_axioms.proofs.AddedLemmas.{here, there}
use Rattle.mz_corpus.specs.Article.{Article}
use Rattle.mz_corpus.specs.Corpus.{Corpus, IsCorpus}
use Rattle.mz_turns.specs.Row.{Row, Waiting, Claimed, Accepted, Rejected, Blocked, Cyclic, Missing, is_waiting, is_claimed, is_accepted, row_at}
use Rattle.mz_turns.specs.Dependencies.{place_of, direct_rows}
use Rattle.mz_turns.specs.Machine.{and_then, unless_accepted, all_settled, first_unaccepted, IsReady, IsBlockedBy, NoneIsBlocked}
use Rattle.mz_turns.proofs.RowLemmas.{both}
use Rattle.mz_turns.proofs.NameLemmas.{HasArticle, contained, found, articles_of}
use Rattle.mz_rows.specs.Table.{is_ready, ready_by, bad_if, bad_by, bad_of}

pub waiting_is : (x : Row) → is_waiting x ≡ true → x ≡ Waiting
waiting_is Waiting h = refl
waiting_is (Claimed w) h = absurd cc
waiting_is (Accepted e) h = absurd cc
waiting_is (Rejected fs) h = absurd cc
waiting_is (Blocked n) h = absurd cc
waiting_is Cyclic h = absurd cc
waiting_is Missing h = absurd cc

pub claimed_is : (x : Row) → is_claimed x ≡ true → (w : ℕ) × (x ≡ Claimed w)
claimed_is Waiting h = absurd cc
claimed_is (Claimed w) h = (w, refl)
claimed_is (Accepted e) h = absurd cc
claimed_is (Rejected fs) h = absurd cc
claimed_is (Blocked n) h = absurd cc
claimed_is Cyclic h = absurd cc
claimed_is Missing h = absurd cc

-- a row that is ready
ready_is_by : (c : List Article) (rows : List Row) (r : ℕ) (o : Option Article) → slice_get c r ≡ o → ready_by c rows o (row_at rows r) ≡ true → IsReady c rows r
ready_is_by c rows r None e h = absurd cc
ready_is_by c rows r (Some a) e h =
    let q = both (is_waiting (row_at rows r)) (all_settled rows (direct_rows c a)) h in
    record { article = a; is_at = e; waits = waiting_is (row_at rows r) q.0; settled = q.1 }

pub ready_is : (c : List Article) (rows : List Row) (r : ℕ) → is_ready c rows r ≡ true → IsReady c rows r
ready_is c rows r h = ready_is_by c rows r (slice_get c r) refl h

pub not_ready : (c : List Article) (rows : List Row) (r : ℕ) (a : Article) → slice_get c r ≡ Some a → row_at rows r ≡ Waiting → is_ready c rows r ≡ false → all_settled rows (direct_rows c a) ≡ false
not_ready c rows r a h waits f =
    let p : is_ready c rows r ≡ all_settled rows (direct_rows c a) = λ i. ready_by c rows (h i) (waits i) in sym p ∙ f

-- a row that can be blocked
pub record IsBad (c : List Article) (rows : List Row) (r d : ℕ) : Type 0 where
  pub article : Article
  pub is_at : slice_get c r ≡ Some article
  pub waits : row_at rows r ≡ Waiting
  pub settled : all_settled rows (direct_rows c article) ≡ true
  pub unaccepted : first_unaccepted rows (direct_rows c article) ≡ Some d

bad_parts : (b : Bool) (o : Option ℕ) (d : ℕ) → bad_if b o ≡ Some d → (b ≡ true) × (o ≡ Some d)
bad_parts true o d h = (refl, h)
bad_parts false o d h = absurd (none-some d h)

bad_is_by : (c : List Article) (rows : List Row) (r d : ℕ) (o : Option Article) → slice_get c r ≡ o → bad_by c rows o (row_at rows r) ≡ Some d → IsBad c rows r d
bad_is_by c rows r d None e h = absurd (none-some d h)
bad_is_by c rows r d (Some a) e h =
    let p = bad_parts (and_then (is_waiting (row_at rows r)) (all_settled rows (direct_rows c a))) (first_unaccepted rows (direct_rows c a)) d h in
    let q = both (is_waiting (row_at rows r)) (all_settled rows (direct_rows c a)) p.0 in
    record { article = a; is_at = e; waits = waiting_is (row_at rows r) q.0; settled = q.1; unaccepted = p.1 }

pub bad_is : (c : List Article) (rows : List Row) (r d : ℕ) → bad_of c rows r ≡ Some d → IsBad c rows r d
bad_is c rows r d h = bad_is_by c rows r d (slice_get c r) refl h

pub none_blocked : (c : List Article) (rows : List Row) → ((k : ℕ) → k < length c → bad_of c rows k ≡ None) → NoneIsBlocked c rows
none_blocked c rows none = λ r a h waits settled.
    let p : bad_of c rows r ≡ bad_if (all_settled rows (direct_rows c a)) (first_unaccepted rows (direct_rows c a)) = λ i. bad_by c rows (h i) (waits i) in
    sym (ap (λ b. bad_if b (first_unaccepted rows (direct_rows c a))) settled) ∙ (sym p ∙ none r (slice_get_within c r a h))

place_within : (c : List Article) (n : Name) → HasArticle c n → place_of c n < length c
place_within c n has = let f = found c n has in slice_get_within c (place_of c n) f.0 f.1

first_if : (c : List Article) (rows : List Row) (m : Name) (ns : List Name) (d : ℕ) (b : Bool) → HasArticle c m → (first_unaccepted rows (map (place_of c) ns) ≡ Some d → d < length c) → unless_accepted b (place_of c m) (first_unaccepted rows (map (place_of c) ns)) ≡ Some d → d < length c
first_if c rows m ns d true has rest h = rest h
first_if c rows m ns d false has rest h = subst (λ k. k < length c) (same_Some (place_of c m) d h) (place_within c m has)

first_within : (c : List Article) (rows : List Row) (ns : List Name) (d : ℕ) → ((n : Name) → Contains ns n → HasArticle c n) → first_unaccepted rows (map (place_of c) ns) ≡ Some d → d < length c
first_within c rows [] d known h = absurd (none-some d h)
first_within c rows (m ∷ ns) d known h =
    first_if c rows m ns d (is_accepted (row_at rows (place_of c m))) (known m (here m ns)) (first_within c rows ns d (λ n k. known n (there m n ns k))) h

-- what blocks a row is a row
pub bad_within : (k : Corpus) → IsCorpus k → (rows : List Row) (r d : ℕ) → bad_of k.articles rows r ≡ Some d → d < length k.articles
bad_within k corpus rows r d h =
    let bad = bad_is k.articles rows r d h in
    first_within k.articles rows bad.article.direct d (λ n has. (articles_of k corpus).known bad.article n (contained k.articles r bad.article bad.is_at) has) bad.unaccepted

pub blocked_by : (c : List Article) (rows : List Row) (r d : ℕ) (b : Article) (n : Name) → bad_of c rows r ≡ Some d → slice_get c d ≡ Some b → b.name ≡ n → IsBlockedBy c rows r n
blocked_by c rows r d b n h at named =
    let bad = bad_is c rows r d h in
    record { article = bad.article; is_at = bad.is_at; waits = bad.waits; settled = bad.settled; row = d; unaccepted = bad.unaccepted; other = b; other_at = at; named = named }

-- sums after one row is put
pub sum-weight_put : (f : Row → ℕ) (rows : List Row) (r : ℕ) (x y : Row) → r < length rows → row_at rows r ≡ y → sum_by f (slice_set rows r x) + f y ≡ sum_by f rows + f x
sum-weight_put f rows r x y l e = subst (λ z. sum_by f (slice_set rows r x) + f z ≡ sum_by f rows + f x) e (sum_by-set f rows r x Waiting l)
