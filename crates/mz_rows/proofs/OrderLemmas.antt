-- The order of a corpus as an order for the verdicts.
use Rattle.std.proofs.Common.{◌≡◌, ◌<◌, ◌≤◌, ◌+◌, ◌⊎◌, inl, inr, ℕ, zero, suc, Bool, true, false, not, ◌&&◌, ◌||◌, List, [], ◌∷◌, ◌++◌, map, length, refl, sym, ap, ◌∙◌, arith, subst, length-set, append_assoc}
use Rattle.std.specs.Prelude.{if◌then◌else◌, Option, Some, None, slice_get, slice_set, Contains}
use Rattle.std.specs.List.{sum_by, list_all}
use Rattle.std.proofs.lemmas.Bool.{cases_eq, cases_lt}
use Rattle.std.proofs.lemmas.List.{length-map, append-nil}
use Rattle.std.proofs.lemmas.List.Elements.{Contains-push_cases, Contains-append_left, Contains-push}
use Rattle.std.proofs.lemmas.Option.{slice_get_within}
use Rattle.mz_base.specs.Name.{is_built_in}
use Rattle.mz_base.specs.declared.name.Name.{Name}
use Rattle.mz_axioms.proofs.AddedLemmas.{first_or_later}
use Rattle.mz_corpus.specs.Article.{Article, is_cyclic}
use Rattle.mz_corpus.specs.Corpus.{Corpus, IsCorpus, IsDirect}
use Rattle.mz_corpus.specs.Names.{is_among}
use Rattle.mz_corpus.specs.Order.{is_at_hand, Takes, end, take}
use Rattle.mz_corpus.specs.Order as corpus_order
use Rattle.mz_corpus.specs.declared.ordering.Ordering.{Ordering}
use Rattle.mz_corpus.proofs.AscendingLemmas.{Contains-among, among-Contains}
use Rattle.mz_corpus.proofs.OrderLemmas.{Contains-map}
use Rattle.mz_turns.specs.Row.{Row, Waiting, Missing, is_settled, is_waiting, row_at, wait_weight}
use Rattle.mz_turns.specs.Dependencies.{place_of, direct_rows, start_of, start_row}
use Rattle.mz_turns.specs.Machine.{and_then, all_settled}
use Rattle.mz_turns.specs.Order.{IsOrder, ends, goes}
use Rattle.mz_turns.proofs.RowLemmas.{same_article, row_at-put_same, row_at-put_other, start_waits, at_start}
use Rattle.mz_turns.proofs.NameLemmas.{AreArticles, in_none, contained, article_at, place_is, articles_of}
use Rattle.mz_rows.specs.Table.{is_ready}
use Rattle.mz_rows.specs.Order.{judged_rows, BeginsOrder}
use Rattle.mz_rows.proofs.ReadyLemmas.{waiting_is, ready_is, sum-weight_put}
use Rattle.mz_rows.proofs.StoredLemmas.{some_article}
use Rattle.mz_rows.proofs.ReachLemmas.{AreReached, reached_of}
use Rattle.mz_rows.proofs.ProgressLemmas.{Wait, names_settled, all_settled_rows, none_ready}

-- the same rows wait
pub record WaitsAlike (rows others : List Row) : Type 0 where
  pub settled : (q : ℕ) → is_settled (row_at others q) ≡ is_settled (row_at rows q)
  pub waits : (q : ℕ) → is_settled (row_at rows q) ≡ false → row_at others q ≡ row_at rows q

settled_alike : (rows others : List Row) → WaitsAlike rows others → (ds : List ℕ) → all_settled others ds ≡ all_settled rows ds
settled_alike rows others s [] = refl
settled_alike rows others s (d ∷ ds) = λ i. and_then (s.settled d i) (settled_alike rows others s ds i)

put_settled_if : (rows others : List Row) (r : ℕ) (x y : Row) → r < length rows → r < length others → is_settled x ≡ is_settled y → WaitsAlike rows others → (q : ℕ) → (q ≡ r) ⊎ (q ≡ r → ⊥) → is_settled (row_at (slice_set others r y) q) ≡ is_settled (row_at (slice_set rows r x) q)
put_settled_if rows others r x y l m same s q (inl e) =
    ap (λ k. is_settled (row_at (slice_set others r y) k)) e
    ∙ (ap is_settled (row_at-put_same others r y m) ∙ (sym same ∙ (sym (ap is_settled (row_at-put_same rows r x l)) ∙ ap (λ k. is_settled (row_at (slice_set rows r x) k)) (sym e))))
put_settled_if rows others r x y l m same s q (inr n) = ap is_settled (row_at-put_other others r q y n) ∙ (s.settled q ∙ ap is_settled (sym (row_at-put_other rows r q x n)))

true_is_not_false : {b : Bool} → b ≡ true → b ≡ false → ⊥
true_is_not_false p q = cc

row_at-put_waits_if : (rows others : List Row) (r : ℕ) (x y : Row) → r < length rows → is_settled x ≡ true → WaitsAlike rows others → (q : ℕ) → (q ≡ r) ⊎ (q ≡ r → ⊥) → is_settled (row_at (slice_set rows r x) q) ≡ false → row_at (slice_set others r y) q ≡ row_at (slice_set rows r x) q
row_at-put_waits_if rows others r x y l sx s q (inl e) un =
    absurd (true_is_not_false (ap (λ k. is_settled (row_at (slice_set rows r x) k)) e ∙ (ap is_settled (row_at-put_same rows r x l) ∙ sx)) un)
row_at-put_waits_if rows others r x y l sx s q (inr n) un =
    row_at-put_other others r q y n ∙ (s.waits q (sym (ap is_settled (row_at-put_other rows r q x n)) ∙ un) ∙ sym (row_at-put_other rows r q x n))

put_alike : (rows others : List Row) (r : ℕ) (x y : Row) → r < length rows → r < length others → is_settled x ≡ true → is_settled y ≡ true → WaitsAlike rows others → WaitsAlike (slice_set rows r x) (slice_set others r y)
put_alike rows others r x y l m sx sy s = record {
  settled = λ q. put_settled_if rows others r x y l m (sx ∙ sym sy) s q (cases_eq q r);
  waits = λ q un. row_at-put_waits_if rows others r x y l sx s q (cases_eq q r) un;
}

alike_itself : (rows : List Row) → WaitsAlike rows rows
alike_itself rows = record { settled = λ q. refl; waits = λ q un. refl }

at_length : (c : List Article) (rows : List Row) (r : ℕ) (a : Article) → length rows ≡ length c → slice_get c r ≡ Some a → r < length rows
at_length c rows r a whole at = subst (λ n. r < n) (sym whole) (slice_get_within c r a at)

set_length : (c : List Article) (rows : List Row) (r : ℕ) (x : Row) → length rows ≡ length c → length (slice_set rows r x) ≡ length c
set_length c rows r x whole = length-set rows r x ∙ whole

-- an order is one for all rows of which the same ones wait
order_alike : (c : List Article) (rows others : List Row) (rs : List ℕ) → length rows ≡ length c → length others ≡ length c → WaitsAlike rows others → IsOrder c rows rs → IsOrder c others rs
order_alike c rows others rs lr lo s (ends rows1 all) = ends others (λ r lt. s.settled r ∙ all r lt)
order_alike c rows others rs lr lo s (goes r rs1 a rows1 at w set rest) =
    goes r rs1 a others at (s.waits r (ap is_settled w) ∙ w) (settled_alike rows others s (direct_rows c a) ∙ set) (λ x sx.
    order_alike c (slice_set rows r x) (slice_set others r x) rs1 (set_length c rows r x lr) (set_length c others r x lo)
    (put_alike rows others r x x (at_length c rows r a lr at) (at_length c others r a lo at) sx sx s) (rest x sx))

-- it is enough to know it for one verdict
from_one : (c : List Article) (rows : List Row) (r : ℕ) (rs : List ℕ) (a : Article) → length rows ≡ length c → slice_get c r ≡ Some a → row_at rows r ≡ Waiting → all_settled rows (direct_rows c a) ≡ true → IsOrder c (slice_set rows r Missing) rs → IsOrder c rows (r ∷ rs)
from_one c rows r rs a whole at w set o =
    goes r rs a rows at w set (λ x sx.
    order_alike c (slice_set rows r Missing) (slice_set rows r x) rs (set_length c rows r Missing whole) (set_length c rows r x whole)
    (put_alike rows rows r Missing x (at_length c rows r a whole at) (at_length c rows r a whole at) refl sx (alike_itself rows)) o)

-- rows of which none is settled wait, after one is settled too
wait_if : (c : List Article) (rows : List Row) (r : ℕ) (x : Row) → r < length rows → is_settled x ≡ true → Wait c rows → (q : ℕ) (a : Article) → slice_get c q ≡ Some a → (q ≡ r) ⊎ (q ≡ r → ⊥) → is_settled (row_at (slice_set rows r x) q) ≡ false → (row_at (slice_set rows r x) q ≡ Waiting) × (start_row a ≡ Waiting)
wait_if c rows r x l sx wait q a at (inl e) un =
    absurd (true_is_not_false (ap (λ k. is_settled (row_at (slice_set rows r x) k)) e ∙ (ap is_settled (row_at-put_same rows r x l) ∙ sx)) un)
wait_if c rows r x l sx wait q a at (inr n) un =
    let o = row_at-put_other rows r q x n in
    let w = wait q a at (sym (ap is_settled o) ∙ un) in
    (o ∙ w.0, w.1)

wait_put : (c : List Article) (rows : List Row) (r : ℕ) (x : Row) → r < length rows → is_settled x ≡ true → Wait c rows → Wait c (slice_set rows r x)
wait_put c rows r x l sx wait = λ q a at un. wait_if c rows r x l sx wait q a at (cases_eq q r) un

-- a ready row is found, or there is none
abbrev FindsReady : List Article → List Row → ℕ → Type 0
FindsReady c rows k = ((r : ℕ) → r < k → is_ready c rows r ≡ false) ⊎ ((r : ℕ) × (is_ready c rows r ≡ true))

below_next : (c : List Article) (rows : List Row) (k r : ℕ) → ((q : ℕ) → q < k → is_ready c rows q ≡ false) → is_ready c rows k ≡ false → r < suc k → (r < k) ⊎ (k ≤ r) → is_ready c rows r ≡ false
below_next c rows k r h e lt (inl l) = h r l
below_next c rows k r h e lt (inr l) = let same : r ≡ k = omega (arith, lt, l) in ap (is_ready c rows) same ∙ e

find_next : (c : List Article) (rows : List Row) (k : ℕ) (b : Bool) → is_ready c rows k ≡ b → FindsReady c rows k → FindsReady c rows (suc k)
find_next c rows k true e h = inr (k, e)
find_next c rows k false e (inl h) = inl (λ r lt. below_next c rows k r h e lt (cases_lt r k))
find_next c rows k false e (inr h) = inr h

find_ready : (c : List Article) (rows : List Row) (k : ℕ) → FindsReady c rows k
find_ready c rows zero = inl (λ r lt. absurd (omega (arith, lt)))
find_ready c rows (suc k) = find_next c rows k (is_ready c rows k) refl (find_ready c rows k)

-- an order of rows that aren't settled
abbrev pub HasOrder : List Article → List Row → Type 0
HasOrder c rows = (rs : List ℕ) × IsOrder c rows rs × ((r : ℕ) → Contains rs r → is_settled (row_at rows r) ≡ false)

unsettled_before : (rows : List Row) (r q : ℕ) → r < length rows → is_settled (row_at (slice_set rows r Missing) q) ≡ false → (q ≡ r) ⊎ (q ≡ r → ⊥) → is_settled (row_at rows q) ≡ false
unsettled_before rows r q l un (inl e) =
    absurd (true_is_not_false (ap (λ k. is_settled (row_at (slice_set rows r Missing) k)) e ∙ ap is_settled (row_at-put_same rows r Missing l)) un)
unsettled_before rows r q l un (inr n) = sym (ap is_settled (row_at-put_other rows r q Missing n)) ∙ un

unsettled_first : (rows : List Row) (r q : ℕ) (rs : List ℕ) → r < length rows → row_at rows r ≡ Waiting → ((k : ℕ) → Contains rs k → is_settled (row_at (slice_set rows r Missing) k) ≡ false) → (q ≡ r) ⊎ Contains rs q → is_settled (row_at rows q) ≡ false
unsettled_first rows r q rs l w later (inl e) = ap (λ k. is_settled (row_at rows k)) e ∙ ap is_settled w
unsettled_first rows r q rs l w later (inr h) = unsettled_before rows r q l (later q h) (cases_eq q r)

sum-one_fewer : (c : List Article) (rows : List Row) (r : ℕ) (a : Article) → length rows ≡ length c → slice_get c r ≡ Some a → row_at rows r ≡ Waiting → sum_by wait_weight (slice_set rows r Missing) + 1 ≡ sum_by wait_weight rows
sum-one_fewer c rows r a whole at w =
    let s : sum_by wait_weight (slice_set rows r Missing) + 1 ≡ sum_by wait_weight rows + 0 = sum-weight_put wait_weight rows r Missing Waiting (at_length c rows r a whole at) w in
    omega (arith, s)

finish_if : (c : List Article) → AreArticles c → AreReached c → (n : ℕ) (rows : List Row) → length rows ≡ length c → Wait c rows → sum_by wait_weight rows ≤ n → ((after : List Row) → length after ≡ length c → Wait c after → suc (sum_by wait_weight after) ≤ n → HasOrder c after) → FindsReady c rows (length c) → HasOrder c rows
finish_if c articles reached n rows whole wait le more (inl none) =
    ([], ends rows (λ r lt. let a = some_article c r lt in all_settled_rows c articles reached rows wait (none_ready c rows none) r a.0 a.1), λ r h. absurd (in_none r h))
finish_if c articles reached n rows whole wait le more (inr h) =
    let r = h.0 in
    let ready = ready_is c rows r h.1 in
    let a = ready.article in
    let fewer = sum-one_fewer c rows r a whole ready.is_at ready.waits in
    let o = more (slice_set rows r Missing) (set_length c rows r Missing whole) (wait_put c rows r Missing (at_length c rows r a whole ready.is_at) refl wait) (omega (arith, fewer, le)) in
    let l = at_length c rows r a whole ready.is_at in
    (r ∷ o.0, from_one c rows r o.0 a whole ready.is_at ready.waits ready.settled o.1, λ q h. unsettled_first rows r q o.0 l ready.waits o.2 (first_or_later r q o.0 h))

-- whatever rows wait, they have an order
finish : (c : List Article) → AreArticles c → AreReached c → (n : ℕ) (rows : List Row) → length rows ≡ length c → Wait c rows → sum_by wait_weight rows ≤ n → HasOrder c rows
finish c articles reached zero rows whole wait le =
    finish_if c articles reached 0 rows whole wait le (λ after w t l. absurd (omega (arith, l))) (find_ready c rows (length c))
finish c articles reached (suc n) rows whole wait le =
    finish_if c articles reached (suc n) rows whole wait le (λ after w t l. finish c articles reached n after w t (omega (arith, l))) (find_ready c rows (length c))

-- the articles with the names of the first list are judged, and no others
record IsTaken (c : List Article) (taken : List Name) (rows : List Row) : Type 0 where
  whole : length rows ≡ length c
  settled : (m : Name) → Contains taken m → is_settled (row_at rows (place_of c m)) ≡ true
  untaken : (r : ℕ) (a : Article) → slice_get c r ≡ Some a → (Contains taken a.name → ⊥) → row_at rows r ≡ start_row a
  wait : Wait c rows

start_wait : (c : List Article) → Wait c (map start_row c)
start_wait c = λ r a at un.
    let s = at_start c r a at in
    let w = start_waits a.text (is_cyclic a) (ap is_settled (sym s) ∙ un) in
    (s ∙ w, w)

start_taken : (c : List Article) → IsTaken c [] (map start_row c)
start_taken c = record {
  whole = length-map c start_row;
  settled = λ m h. absurd (in_none m h);
  untaken = λ r a at h. at_start c r a at;
  wait = start_wait c;
}

settled_put : (rows : List Row) (r q : ℕ) → r < length rows → is_settled (row_at rows q) ≡ true → (q ≡ r) ⊎ (q ≡ r → ⊥) → is_settled (row_at (slice_set rows r Missing) q) ≡ true
settled_put rows r q l h (inl e) = ap (λ k. is_settled (row_at (slice_set rows r Missing) k)) e ∙ ap is_settled (row_at-put_same rows r Missing l)
settled_put rows r q l h (inr n) = ap is_settled (row_at-put_other rows r q Missing n) ∙ h

settled_push : (c : List Article) (taken : List Name) (n m : Name) (rows : List Row) → ((k : Name) → Contains taken k → is_settled (row_at rows (place_of c k)) ≡ true) → is_settled (row_at rows (place_of c n)) ≡ true → Contains taken m ⊎ (n ≡ m) → is_settled (row_at rows (place_of c m)) ≡ true
settled_push c taken n m rows h own (inl k) = h m k
settled_push c taken n m rows h own (inr e) = subst (λ x. is_settled (row_at rows (place_of c x)) ≡ true) e own

row_at-untaken_put : (c : List Article) (rows : List Row) (r q : ℕ) (b : Article) → r < length rows → row_at rows q ≡ start_row b → (q ≡ r → ⊥) → row_at (slice_set rows r Missing) q ≡ start_row b
row_at-untaken_put c rows r q b l h n = row_at-put_other rows r q Missing n ∙ h

same_name : (c : List Article) (q r : ℕ) (a b : Article) → slice_get c q ≡ Some b → slice_get c r ≡ Some a → q ≡ r → a.name ≡ b.name
same_name c q r a b bt at e = ap (λ x. x.name) (same_article c r a b at (ap (slice_get c) (sym e) ∙ bt))

-- one more is judged
taken_put : (c : List Article) (taken : List Name) (n : Name) (rows : List Row) (a : Article) → IsTaken c taken rows → slice_get c (place_of c n) ≡ Some a → a.name ≡ n → IsTaken c (taken ++ n ∷ []) (slice_set rows (place_of c n) Missing)
taken_put c taken n rows a t at named =
    let r = place_of c n in
    let l = at_length c rows r a t.whole at in
    record {
      whole = set_length c rows r Missing t.whole;
      settled = λ m h. settled_push c taken n m (slice_set rows r Missing)
          (λ k i. settled_put rows r (place_of c k) l (t.settled k i) (cases_eq (place_of c k) r))
          (ap is_settled (row_at-put_same rows r Missing l)) (Contains-push_cases taken n m h);
      untaken = λ q b bt free. row_at-untaken_put c rows r q b l
          (t.untaken q b bt (λ k. free (Contains-append_left taken (n ∷ []) b.name k)))
          (λ e. free (subst (λ x. Contains (taken ++ n ∷ []) x) (sym named ∙ same_name c q r a b bt at e) (Contains-push taken n)));
      wait = wait_put c rows r Missing l refl t.wait;
    }

-- one more was settled at the start
taken_settled : (c : List Article) (taken : List Name) (n : Name) (rows : List Row) → IsTaken c taken rows → is_settled (row_at rows (place_of c n)) ≡ true → IsTaken c (taken ++ n ∷ []) rows
taken_settled c taken n rows t own = record {
  whole = t.whole;
  settled = λ m h. settled_push c taken n m rows t.settled own (Contains-push_cases taken n m h);
  untaken = λ q b bt free. t.untaken q b bt (λ k. free (Contains-append_left taken (n ∷ []) b.name k));
  wait = t.wait;
}

and_left : (a b : Bool) → a && b ≡ true → a ≡ true
and_left true b h = refl
and_left false b h = h

and_right : (a b : Bool) → a && b ≡ true → b ≡ true
and_right true b h = h
and_right false b h = absurd cc

not_is : (b : Bool) → not b ≡ true → b ≡ false
not_is true h = sym h
not_is false h = refl

all_at : (p : Name → Bool) (ns : List Name) (n : Name) → list_all p ns ≡ true → Contains ns n → p n ≡ true
all_at p [] n h has = absurd (in_none n has)
all_at p (m ∷ ns) n h has = all_at_if p m ns n (and_left (p m) (list_all p ns) h) (λ k. all_at p ns n (and_right (p m) (list_all p ns) h) k) (first_or_later m n ns has)
  where
    all_at_if : (p : Name → Bool) (m : Name) (ns : List Name) (n : Name) → p m ≡ true → (Contains ns n → p n ≡ true) → (n ≡ m) ⊎ Contains ns n → p n ≡ true
    all_at_if p m ns n own later (inl e) = ap p e ∙ own
    all_at_if p m ns n own later (inr k) = later k

or_second : (a b : Bool) → a ≡ false → a || b ≡ true → b ≡ true
or_second true b e h = absurd cc
or_second false b e h = h

not_among : (ns : List Name) (n : Name) → is_among ns n ≡ false → Contains ns n → ⊥
not_among ns n e h = true_is_not_false (among-Contains ns n h) e

-- the direct dependencies of an article that can be taken are judged
direct_settled : (c : List Article) (taken : List Name) (rows : List Row) (a : Article) → IsTaken c taken rows → IsDirect a.dependencies a.direct → corpus_order.is_ready taken a ≡ true → all_settled rows (direct_rows c a) ≡ true
direct_settled c taken rows a t direct ready =
    names_settled c rows a.direct (λ m has.
    let named = direct.named m has in
    let at_hand : is_at_hand taken m ≡ true = all_at (is_at_hand taken) a.dependencies m (and_right (not (is_among taken a.name)) (list_all (is_at_hand taken) a.dependencies) ready) named.0 in
    t.settled m (Contains-among taken m (or_second (is_built_in m.number) (is_among taken m) named.1 at_hand)))

start_or : (o : Option (List ℕ)) (b : Bool) → is_waiting (start_of o b) ≡ false → is_settled (start_of o b) ≡ true
start_or None b h = refl
start_or (Some t) true h = refl
start_or (Some t) false h = absurd cc

-- the articles with the names, and then some of which none has one of the names that were taken by then
abbrev ContinuesFrom : List Article → List Name → List Name → List Row → Type 0
ContinuesFrom c taken ns rows = (rest : List ℕ) × IsOrder c rows (judged_rows c ns ++ rest) × ((r : ℕ) (a : Article) → Contains rest r → slice_get c r ≡ Some a → Contains (taken ++ ns) a.name → ⊥)

untaken_at : (c : List Article) → AreArticles c → (taken : List Name) (rows : List Row) → IsTaken c taken rows → (r : ℕ) (a : Article) → slice_get c r ≡ Some a → is_settled (row_at rows r) ≡ false → Contains taken a.name → ⊥
untaken_at c articles taken rows t r a at un has =
    true_is_not_false (t.settled a.name has) (ap (λ k. is_settled (row_at rows k)) (place_is c articles r a at) ∙ un)

append-filtered : (c : List Article) (n : Name) (ns : List Name) (rest : List ℕ) (b : Bool) → is_waiting (row_at (map start_row c) (place_of c n)) ≡ b → judged_rows c (n ∷ ns) ++ rest ≡ (if b then place_of c n ∷ judged_rows c ns else judged_rows c ns) ++ rest
append-filtered c n ns rest b e = ap (λ t. (if t then place_of c n ∷ judged_rows c ns else judged_rows c ns) ++ rest) e

along_if : (c : List Article) (taken ns : List Name) (n : Name) (rows : List Row) (a : Article) → IsTaken c taken rows → slice_get c (place_of c n) ≡ Some a → a.name ≡ n → (Contains taken n → ⊥) → all_settled rows (direct_rows c a) ≡ true → ((after : List Row) → IsTaken c (taken ++ n ∷ []) after → ContinuesFrom c (taken ++ n ∷ []) ns after) → (b : Bool) → is_waiting (row_at (map start_row c) (place_of c n)) ≡ b → ContinuesFrom c taken (n ∷ ns) rows
along_if c taken ns n rows a t at named free set more true e =
    let r = place_of c n in
    let own : row_at rows r ≡ start_row a = t.untaken r a at (λ h. free (subst (λ x. Contains taken x) named h)) in
    let w : row_at rows r ≡ Waiting = own ∙ (sym (at_start c r a at) ∙ waiting_is (row_at (map start_row c) r) e) in
    let o = more (slice_set rows r Missing) (taken_put c taken n rows a t at named) in
    (o.0, subst (λ rs. IsOrder c rows rs) (sym (append-filtered c n ns o.0 true e)) (from_one c rows r (judged_rows c ns ++ o.0) a t.whole at w set o.1), λ q b h bt has. o.2 q b h bt (subst (λ ms. Contains ms b.name) (sym (append_assoc taken (n ∷ []) ns)) has))
along_if c taken ns n rows a t at named free set more false e =
    let r = place_of c n in
    let own : row_at rows r ≡ start_row a = t.untaken r a at (λ h. free (subst (λ x. Contains taken x) named h)) in
    let done : is_settled (row_at rows r) ≡ true = ap is_settled own ∙ start_or a.text (is_cyclic a) (ap is_waiting (sym (at_start c r a at)) ∙ e) in
    let o = more rows (taken_settled c taken n rows t done) in
    (o.0, subst (λ rs. IsOrder c rows rs) (sym (append-filtered c n ns o.0 false e)) o.1, λ q b h bt has. o.2 q b h bt (subst (λ ms. Contains ms b.name) (sym (append_assoc taken (n ∷ []) ns)) has))

along : (c : List Article) → AreArticles c → AreReached c → ((a : Article) → Contains c a → IsDirect a.dependencies a.direct) → (taken ns : List Name) → Takes c taken ns → (rows : List Row) → IsTaken c taken rows → ContinuesFrom c taken ns rows
along c articles reached direct taken ns (end taken1 none) rows t =
    let o = finish c articles reached (sum_by wait_weight rows) rows t.whole t.wait (omega arith) in
    (o.0, o.1, λ r a h at has. untaken_at c articles taken rows t r a at (o.2 r h) (subst (λ ms. Contains ms a.name) (append-nil taken) has))
along c articles reached direct taken ns (take taken1 ns1 n first p) rows t =
    let a = first.article in
    let k = article_at c a first.held in
    let place : place_of c n ≡ k.0 = ap (place_of c) (sym first.named) ∙ place_is c articles k.0 a k.1 in
    let at : slice_get c (place_of c n) ≡ Some a = ap (slice_get c) place ∙ k.1 in
    let new : is_among taken a.name ≡ false = not_is (is_among taken a.name) (and_left (not (is_among taken a.name)) (list_all (is_at_hand taken) a.dependencies) first.ready) in
    along_if c taken ns1 n rows a t at first.named
    (λ h. not_among taken a.name new (subst (λ x. Contains taken x) (sym first.named) h))
    (direct_settled c taken rows a t (direct a first.held) first.ready)
    (λ after next. along c articles reached direct (taken ++ n ∷ []) ns1 p after next)
    (is_waiting (row_at (map start_row c) (place_of c n))) refl

not_taken : (ns : List Name) (n : Name) → (Contains ns n → ⊥) → (b : Bool) → is_among ns n ≡ b → is_among ns n ≡ false
not_taken ns n free true e = absurd (free (Contains-among ns n e))
not_taken ns n free false e = e

pub begins_order : (k : Corpus) (o : Ordering) → IsCorpus k → corpus_order.IsOrder k.articles o → BeginsOrder k.articles o
begins_order k o corpus is =
    let c = k.articles in
    let r = along c (articles_of k corpus) (reached_of k corpus) (λ a at. (corpus.each a at).direct) [] o.order is.takes (map start_row c) (start_taken c) in
    record {
      rest = r.0;
      of_rest = λ q a h at. is.all a.name (Contains-map (λ x. x.name) c a (contained c q a at)) (not_taken o.order a.name (r.2 q a h at) (is_among o.order a.name) refl);
      order = r.1;
    }

-- each corpus has an order for its verdicts
pub some_order : (k : Corpus) → IsCorpus k → HasOrder k.articles (map start_row k.articles)
some_order k corpus =
    let c = k.articles in
    finish c (articles_of k corpus) (reached_of k corpus) (sum_by wait_weight (map start_row c)) (map start_row c) (length-map c start_row) (start_wait c) (omega arith)
