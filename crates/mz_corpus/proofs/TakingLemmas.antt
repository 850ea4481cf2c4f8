-- Articles that are looked at again where one of their dependencies was taken.
use Rattle.std.proofs.Common.{◌≡◌, ℕ, ◌+◌, ◌<◌, ◌≤◌, ◌⊎◌, Bool, true, false, not, ◌&&◌, ◌||◌, ◌==◌, cond, List, [], ◌∷◌, ◌++◌, Option, Some, None, Result, Ok, Err, length, get_or, take, refl, sym, ap, subst, ◌∙◌, arith, inl, inr, length-set}
use Rattle.std.specs.Prelude.{Contains, All, OnOk, slice_get, slice_set, replicate}
use Rattle.std.specs.List.{list_all}
use Rattle.std.specs.declared.cmp.Ordering.{Ordering}
use Rattle.std.specs.declared.cmp.Ordering.TheVariants.{Less, Equal, Greater}
use Rattle.std.specs.Ordering.{nat_cmp, is_lt}
use Rattle.std.proofs.lemmas.Bool.{cases_eq, cases_lt, eq-eqb, false≢true}
use Rattle.std.proofs.lemmas.Bool.Decides.{nat_tests}
use Rattle.std.proofs.lemmas.List.{length-replicate, get_or-replicate, take_all, get_or_read, get_or-set_same, get_or-set_other}
use Rattle.std.proofs.lemmas.List.Elements.{All-contains, All-weaker, Contains-append_left, Contains-push, Contains-push_cases}
use Rattle.std.proofs.lemmas.List.Folds.{list_all_more, list_all_at}
use Rattle.mz_base.specs.declared.name.Name.{Name}
use Rattle.mz_base.specs.Name.{is_built_in}
use Rattle.mz_corpus.specs.Article.{Article}
use Rattle.mz_corpus.specs.Ascending.{with_ascending}
use Rattle.mz_corpus.specs.Names.{is_name_of, is_among, with_name}
use Rattle.mz_corpus.specs.Order.{is_at_hand, is_ready, IsFirstReady, NoneReady}
use Rattle.mz_corpus.specs.Taking.{IsSeen, AreSeen, with_ready, with_ready_at, with_row, with_rows, AreReady, IsReadyName}
use Rattle.mz_corpus.proofs.ContainsLemmas.{Contains-head, Contains-tail, Contains-none, Contains-cases}
use Rattle.mz_corpus.proofs.AscendingLemmas.{Contains-with_ascending, Contains-kept, Contains-added, Contains-among, among-Contains, compared, IsTrichotomy}
use Rattle.mz_corpus.proofs.OrderLemmas.{and_left, not_true, unready, with_name-new}
use Rattle.mz_corpus.proofs.SliceLemmas.{slice_get_at, slice_get_within, slice_get_held}

-- numbers that were compared

pub less_from : (a b : ℕ) → is_lt (nat_cmp a b) ≡ true → a < b
less_from a b h = let c = compared a b in less_by a b c.answer c.holds (ap is_lt (sym c.is) ∙ h)
  where
    less_by : (a b : ℕ) (o : Ordering) → IsTrichotomy o a b → is_lt o ≡ true → a < b
    less_by a b Less lt e = lt
    less_by a b Equal same e = absurd (false≢true e)
    less_by a b Greater gt e = absurd (false≢true e)

-- names that are at hand

and_right : (a b : Bool) → a && b ≡ true → b ≡ true
and_right true b h = h
and_right false b h = absurd (false≢true h)

and_both : (a b : Bool) → a ≡ true → b ≡ true → a && b ≡ true
and_both true b e h = h
and_both false b e h = absurd (false≢true e)

or_either : (a b c d : Bool) → (a ≡ true → c ≡ true) → (b ≡ true → d ≡ true) → a || b ≡ true → c || d ≡ true
or_either true b c d f g h = ap (λ x. x || d) (f refl)
or_either false b true d f g h = refl
or_either false b false d f g h = g h

among_more : (taken : List Name) (n m : Name) → is_among taken m ≡ true → is_among (taken ++ n ∷ []) m ≡ true
among_more taken n m h = among-Contains (taken ++ n ∷ []) m (Contains-append_left taken (n ∷ []) m (Contains-among taken m h))

at_hand_more : (taken : List Name) (n m : Name) → is_at_hand taken m ≡ true → is_at_hand (taken ++ n ∷ []) m ≡ true
at_hand_more taken n m h = or_either (is_built_in m.number) (is_among taken m) (is_built_in m.number) (is_among (taken ++ n ∷ []) m) (λ e. e) (among_more taken n m) h

all_weaker : (p q : Name → Bool) → ((m : Name) → p m ≡ true → q m ≡ true) → (ms : List Name) → list_all p ms ≡ true → list_all q ms ≡ true
all_weaker p q weaker [] h = refl
all_weaker p q weaker (m ∷ ms) h =
    and_both (q m) (list_all q ms) (weaker m (and_left (p m) (list_all p ms) h)) (all_weaker p q weaker ms (and_right (p m) (list_all p ms) h))

all_more : (taken : List Name) (n : Name) (ms : List Name) → list_all (is_at_hand taken) ms ≡ true → list_all (is_at_hand (taken ++ n ∷ [])) ms ≡ true
all_more taken n ms h = all_weaker (is_at_hand taken) (is_at_hand (taken ++ n ∷ [])) (at_hand_more taken n) ms h

-- a name that is at hand only since n is taken is n
new_by : (taken : List Name) (n m : Name) (b : Bool) → is_built_in m.number ≡ b → is_at_hand taken m ≡ false → is_at_hand (taken ++ n ∷ []) m ≡ true → n ≡ m
new_by taken n m true e before after = absurd (let passes : is_at_hand taken m ≡ true = ap (λ b. b || is_among taken m) e in false≢true (sym before ∙ passes))
new_by taken n m false e before after =
    let free : is_among taken m ≡ false = ap (λ b. b || is_among taken m) (sym e) ∙ before in
    let now : is_among (taken ++ n ∷ []) m ≡ true = ap (λ b. b || is_among (taken ++ n ∷ []) m) (sym e) ∙ after in
    elim (Contains-push_cases taken n m (Contains-among (taken ++ n ∷ []) m now)) [
      | inl k ↦ absurd (false≢true (sym free ∙ among-Contains taken m k))
      | inr same ↦ same
    ]

one_more_by : (taken : List Name) (n m : Name) (ms : List Name) (b : Bool) → is_at_hand taken m ≡ b → (list_all (is_at_hand taken) ms ≡ false → list_all (is_at_hand (taken ++ n ∷ [])) ms ≡ true → Contains ms n)
    → b && list_all (is_at_hand taken) ms ≡ false → list_all (is_at_hand (taken ++ n ∷ [])) (m ∷ ms) ≡ true → Contains (m ∷ ms) n
one_more_by taken n m ms true e ih before after = Contains-tail m ms n (ih before (and_right (is_at_hand (taken ++ n ∷ []) m) (list_all (is_at_hand (taken ++ n ∷ [])) ms) after))
one_more_by taken n m ms false e ih before after =
    let same : n ≡ m = new_by taken n m (is_built_in m.number) refl e (and_left (is_at_hand (taken ++ n ∷ []) m) (list_all (is_at_hand (taken ++ n ∷ [])) ms) after) in
    subst (λ y. Contains (m ∷ ms) y) (sym same) (Contains-head m ms)

-- where all are at hand only since n is taken, n is among them
new_among : (taken : List Name) (n : Name) (ms : List Name) → list_all (is_at_hand taken) ms ≡ false → list_all (is_at_hand (taken ++ n ∷ [])) ms ≡ true → Contains ms n
new_among taken n [] before after = absurd (false≢true (sym before))
new_among taken n (m ∷ ms) before after =
    one_more_by taken n m ms (is_at_hand taken m) refl (new_among taken n ms) before after

-- places up to which dependencies are at hand

take_none : (p : Name → Bool) (ms : List Name) → list_all p (take 0 ms) ≡ true
take_none p [] = refl
take_none p (m ∷ ms) = refl

pub AreSeen-begin : (c : List Article) (seen : List ℕ) → seen ≡ replicate (length c) 0 → AreSeen c [] seen
AreSeen-begin c seen e = record {
  whole = ap length e ∙ length-replicate (length c) 0;
  each = λ r a at.
      let zero_at : 0 ≡ get_or seen r 0 = sym (get_or-replicate (length c) r 0 0 (slice_get_within c r a at)) ∙ ap (λ s. get_or s r 0) (sym e) in
      subst (λ k. IsSeen [] a.dependencies k) zero_at (record { within = omega arith; before = take_none (is_at_hand []) a.dependencies });
}

AreSeen-more : (c : List Article) (taken : List Name) (places : List ℕ) (n : Name) → AreSeen c taken places → AreSeen c (taken ++ n ∷ []) places
AreSeen-more c taken places n h = record {
  whole = h.whole;
  each = λ r a at. let s = h.each r a at in record { within = s.within; before = all_more taken n (take (get_or places r 0) a.dependencies) s.before };
}

name_by : (c : List Article) (taken : List Name) (places : List ℕ) (n : Name) (b : Bool) → is_among taken n ≡ b → AreSeen c taken places → AreSeen c (cond b taken (taken ++ n ∷ [])) places
name_by c taken places n true e h = h
name_by c taken places n false e h = AreSeen-more c taken places n h

pub AreSeen-name : (c : List Article) (taken after : List Name) (places : List ℕ) (n : Name) → after ≡ with_name taken n → AreSeen c taken places → AreSeen c after places
AreSeen-name c taken after places n e h = subst (λ ns. AreSeen c ns places) (sym e) (name_by c taken places n (is_among taken n) refl h)

set_each : (c : List Article) (taken : List Name) (places : List ℕ) (row at : ℕ) (a : Article) → AreSeen c taken places → slice_get c row ≡ Some a → IsSeen taken a.dependencies at
    → (r : ℕ) (b : Article) → slice_get c r ≡ Some b → IsSeen taken b.dependencies (get_or (slice_set places row at) r 0)
set_each c taken places row at a h here new r b e =
    elim (cases_eq r row) [
      | inl same ↦
          (let fits : row < length places = (let lt = slice_get_within c row a here in let w = h.whole in omega arith) in
          let one : a ≡ b = some_same a b (sym here ∙ ap (λ k. slice_get c k) (sym same) ∙ e) in
          let place : at ≡ get_or (slice_set places row at) r 0 = sym (ap (λ k. get_or (slice_set places row at) k 0) same ∙ get_or-set_same places row at 0 fits) in
          subst (λ k. IsSeen taken b.dependencies k) place (subst (λ x. IsSeen taken x.dependencies at) one new))
      | inr other ↦ subst (λ k. IsSeen taken b.dependencies k) (sym (get_or-set_other places row r at 0 other)) (h.each r b e)
    ]
  where
    some_same : (x y : Article) → Some x ≡ Some y → x ≡ y
    some_same x y e = cc

pub AreSeen-set : (c : List Article) (taken : List Name) (places : List ℕ) (row at : ℕ) (a : Article) → AreSeen c taken places → slice_get c row ≡ Some a → IsSeen taken a.dependencies at → AreSeen c taken (slice_set places row at)
AreSeen-set c taken places row at a h here new = record { whole = length-set places row at ∙ h.whole; each = set_each c taken places row at a h here new }

-- a look at an article

pub look_seen : (c : List Article) (taken : List Name) (places : List ℕ) (row : ℕ) (a : Article) (names : List Name) (from : ℕ) → AreSeen c taken places → row < length c → a ≡ get_or c row a → names ≡ a.dependencies → from ≡ get_or places row from → IsSeen taken names from
look_seen c taken places row a names from h lt at en ef =
    let one = h.each row a (slice_get_at c row a lt at) in
    let fits : row < length places = (let w = h.whole in omega arith) in
    let place : get_or places row 0 ≡ from = sym (get_or_read places row from fits ef 0) in
    subst (λ ns. IsSeen taken ns from) (sym en) (subst (λ k. IsSeen taken a.dependencies k) place one)

pub look_set : (c : List Article) (taken old : List Name) (places : List ℕ) (row : ℕ) (a : Article) (names : List Name) (at : ℕ) → AreSeen c taken places → row < length c → a ≡ get_or c row a → names ≡ a.dependencies → old ≡ taken → at ≤ length names
    → list_all (is_at_hand old) (take at names) ≡ true → AreSeen c taken (slice_set places row at)
look_set c taken old places row a names at h lt is en et within before =
    AreSeen-set c taken places row at a h (slice_get_at c row a lt is)
    (record { within = subst (λ ns. at ≤ length ns) en within; before = subst (λ ns. list_all (is_at_hand taken) (take at ns) ≡ true) en (subst (λ ts. list_all (is_at_hand ts) (take at names) ≡ true) et before) })

pub look_ready : (c : List Article) (taken ready : List Name) (row : ℕ) (a : Article) → row < length c → a ≡ get_or c row a → with_ready taken ready a ≡ with_row c taken ready row
look_ready c taken ready row a lt at = ap (with_ready_at taken ready) (sym (slice_get_at c row a lt at))

pub on_ok : {X E : Type 0} (r : Result X E) (P Q : Type 0) → (P → Q) → OnOk r P → OnOk r Q
on_ok (Ok x) P Q w h = w h
on_ok (Err e) P Q w h = h

-- the place of the first that isn't at hand

pub seen_more : (p : Name → Bool) (ns : List Name) (i : ℕ) (n : Name) → i < length ns → n ≡ get_or ns i n → list_all p (take i ns) ≡ true → p n ≡ true → list_all p (take (i + 1) ns) ≡ true
seen_more p ns i n lt at h new = list_all_more p ns i n lt ∙ and_both (list_all p (take i ns)) (p (get_or ns i n)) h (ap p (sym at) ∙ new)

pub missing_at : (p : Name → Bool) (ns : List Name) (i : ℕ) (n : Name) → i < length ns → n ≡ get_or ns i n → p n ≡ false → list_all p ns ≡ false
missing_at p ns i n lt at fails = list_all_at p ns i n lt (ap p (sym at) ∙ fails)

pub at_end : (p : Name → Bool) (ns : List Name) (at : ℕ) → at ≤ length ns → list_all p (take at ns) ≡ true → (at < length ns → list_all p ns ≡ false) → (at == length ns) ≡ list_all p ns
at_end p ns at le before missing =
    elim (cases_lt at (length ns)) [
      | inl lt ↦ (let fails : (at == length ns) ≡ false = apart at (length ns) lt in fails ∙ sym (missing lt))
      | inr past ↦
          (let same : at ≡ length ns = omega arith in
          let all : list_all p ns ≡ true = ap (list_all p) (sym (take_all at ns past)) ∙ before in
          eq-eqb at (length ns) same ∙ sym all)
    ]
  where
    apart : (a b : ℕ) → a < b → (a == b) ≡ false
    apart a b lt = grind (arith, nat_tests)

-- names of ready articles

ready_held : (taken ready : List Name) (a : Article) (m : Name) (b : Bool) → Contains ready m → Contains (cond b (with_ascending ready a.name) ready) m
ready_held taken ready a m true h = Contains-kept ready a.name m h
ready_held taken ready a m false h = h

row_held : (taken ready : List Name) (o : Option Article) (m : Name) → Contains ready m → Contains (with_ready_at taken ready o) m
row_held taken ready None m h = h
row_held taken ready (Some a) m h = ready_held taken ready a m (is_ready taken a) h

rows_held : (c : List Article) (taken ready : List Name) (rows : List ℕ) (m : Name) → Contains ready m → Contains (with_rows c taken ready rows) m
rows_held c taken ready [] m h = h
rows_held c taken ready (r ∷ rows) m h = rows_held c taken (with_row c taken ready r) rows m (row_held taken ready (slice_get c r) m h)

row_added : (taken ready : List Name) (o : Option Article) (a : Article) → o ≡ Some a → is_ready taken a ≡ true → Contains (with_ready_at taken ready o) a.name
row_added taken ready o a e passes =
    subst (λ x. Contains (with_ready_at taken ready x) a.name) (sym e) (subst (λ b. Contains (cond b (with_ascending ready a.name) ready) a.name) (sym passes) (Contains-added ready a.name))

rows_added : (c : List Article) (taken ready : List Name) (rows : List ℕ) (r : ℕ) (a : Article) → Contains rows r → slice_get c r ≡ Some a → is_ready taken a ≡ true → Contains (with_rows c taken ready rows) a.name
rows_added c taken ready [] r a held at passes = absurd (Contains-none r held)
rows_added c taken ready (q ∷ rows) r a held at passes =
    elim (Contains-cases q rows r held) [
      | inl e ↦ rows_held c taken (with_row c taken ready q) rows a.name (row_added taken ready (slice_get c q) a (ap (λ k. slice_get c k) e ∙ at) passes)
      | inr k ↦ rows_added c taken (with_row c taken ready q) rows r a k at passes
    ]

row_by : (c : List Article) (taken ready : List Name) (a : Article) (m : Name) (b : Bool) → Contains c a → is_ready taken a ≡ b → Contains (cond b (with_ascending ready a.name) ready) m → Contains ready m ⊎ IsReadyName c taken m
row_by c taken ready a m true held e h = elim (Contains-with_ascending ready a.name m h) [ inl k ↦ inl k | inr same ↦ inr (record { article = a; held = held; named = same; ready = e }) ]
row_by c taken ready a m false held e h = inl h

row_only : (c : List Article) (taken ready : List Name) (r : ℕ) (o : Option Article) (m : Name) → slice_get c r ≡ o → Contains (with_ready_at taken ready o) m → Contains ready m ⊎ IsReadyName c taken m
row_only c taken ready r None m e h = inl h
row_only c taken ready r (Some a) m e h = row_by c taken ready a m (is_ready taken a) (slice_get_held c r a e) refl h

rows_only : (c : List Article) (taken ready : List Name) (rows : List ℕ) (m : Name) → Contains (with_rows c taken ready rows) m → Contains ready m ⊎ IsReadyName c taken m
rows_only c taken ready [] m h = inl h
rows_only c taken ready (r ∷ rows) m h =
    elim (rows_only c taken (with_row c taken ready r) rows m h) [ inl k ↦ row_only c taken ready r (slice_get c r) m refl k | inr k ↦ inr k ]

-- at the start all articles are looked at

pub AreReady-start : (c : List Article) (ready : List Name) (rows : List ℕ) → ready ≡ with_rows c [] [] rows → ((r : ℕ) → r < length c → Contains rows r) → AreReady c [] ready
AreReady-start c ready rows e whole = record {
  all = λ a held passes. subst (λ ns. Contains ns a.name) (sym e) (rows_added c [] [] rows held.0 a (whole held.0 held.1) (slice_get_at c held.0 a held.1 (sym held.2)) passes);
  only = λ n h. elim (rows_only c [] [] rows n (subst (λ ns. Contains ns n) e h)) [ inl k ↦ absurd (Contains-none n k) | inr k ↦ k ];
}

-- the first of the ready names is taken

pub IsFirstReady-popped : (c : List Article) (taken old new : List Name) (n : Name) → AreReady c taken old → old ≡ n ∷ new → All (λ m. n.number < m.number) new → IsFirstReady c taken n
IsFirstReady-popped c taken old new n h e above =
    let first = h.only n (subst (λ ns. Contains ns n) (sym e) (Contains-head n new)) in
    record {
      article = first.article;
      held = first.held;
      named = first.named;
      ready = first.ready;
      first = λ a held passes.
          elim (Contains-cases n new a.name (subst (λ ns. Contains ns a.name) e (h.all a held passes))) [
            | inl same ↦ subst (λ m. n.number ≤ m.number) same (omega arith)
            | inr k ↦ (let lt : n.number < a.name.number = All-contains (λ m. n.number < m.number) new a.name above k in omega arith)
          ];
    }

pub NoneReady-empty : (c : List Article) (taken ready : List Name) → AreReady c taken ready → ready ≡ [] → NoneReady c taken
NoneReady-empty c taken ready h e = λ a held passes. Contains-none a.name (subst (λ ns. Contains ns a.name) e (h.all a held passes))

-- an article that was ready and has another name is ready still
ready_still : (taken : List Name) (n : Name) (a : Article) → is_ready taken a ≡ true → n.number < a.name.number → is_ready (taken ++ n ∷ []) a ≡ true
ready_still taken n a passes above =
    let free : is_among (taken ++ n ∷ []) a.name ≡ false = free_by (is_among (taken ++ n ∷ []) a.name) refl in
    let hands : list_all (is_at_hand (taken ++ n ∷ [])) a.dependencies ≡ true = all_more taken n a.dependencies (and_right (not (is_among taken a.name)) (list_all (is_at_hand taken) a.dependencies) passes) in
    and_both (not (is_among (taken ++ n ∷ []) a.name)) (list_all (is_at_hand (taken ++ n ∷ [])) a.dependencies) (ap not free) hands
  where
    free_by : (b : Bool) → is_among (taken ++ n ∷ []) a.name ≡ b → is_among (taken ++ n ∷ []) a.name ≡ false
    free_by false e = e
    free_by true e =
        elim (Contains-push_cases taken n a.name (Contains-among (taken ++ n ∷ []) a.name e)) [
          | inl k ↦ absurd (false≢true (sym (unready taken a passes) ∙ among-Contains taken a.name k))
          | inr same ↦ absurd (let e : n.number ≡ a.name.number = ap (λ m. m.number) same in let bad : ⊥ = omega arith in bad)
        ]

not_taken : (taken : List Name) (n : Name) (a : Article) → is_ready (taken ++ n ∷ []) a ≡ true → is_among taken a.name ≡ false
not_taken taken n a passes = not_by (is_among taken a.name) refl
  where
    not_by : (b : Bool) → is_among taken a.name ≡ b → is_among taken a.name ≡ false
    not_by false e = e
    not_by true e = absurd (false≢true (sym (unready (taken ++ n ∷ []) a passes) ∙ among_more taken n a.name e))

turn_only : (c : List Article) (taken old new : List Name) (n : Name) (rows : List ℕ) → AreReady c taken old → old ≡ n ∷ new → All (λ m. n.number < m.number) new → (m : Name) → Contains (with_rows c (taken ++ n ∷ []) new rows) m → IsReadyName c (taken ++ n ∷ []) m
turn_only c taken old new n rows h e above m held =
    elim (rows_only c (taken ++ n ∷ []) new rows m held) [
      | inl k ↦
          (let r = h.only m (subst (λ ns. Contains ns m) (sym e) (Contains-tail n new m k)) in
          let lt : n.number < m.number = All-contains (λ y. n.number < y.number) new m above k in
          record { article = r.article; held = r.held; named = r.named; ready = ready_still taken n r.article r.ready (subst (λ y. n.number < y.number) (sym r.named) lt) })
      | inr k ↦ k
    ]

turn_by : (c : List Article) (taken old new : List Name) (n : Name) (rows : List ℕ) → AreReady c taken old → old ≡ n ∷ new → ((r : ℕ) (a : Article) → slice_get c r ≡ Some a → Contains a.dependencies n → Contains rows r)
    → (a : Article) → Contains c a → is_ready (taken ++ n ∷ []) a ≡ true → (b : Bool) → list_all (is_at_hand taken) a.dependencies ≡ b → Contains (with_rows c (taken ++ n ∷ []) new rows) a.name
turn_by c taken old new n rows h e depend a held passes true hands =
    let before : is_ready taken a ≡ true = and_both (not (is_among taken a.name)) (list_all (is_at_hand taken) a.dependencies) (ap not (not_taken taken n a passes)) hands in
    elim (Contains-cases n new a.name (subst (λ ns. Contains ns a.name) e (h.all a held before))) [
      | inl same ↦ absurd (false≢true (sym (unready (taken ++ n ∷ []) a passes) ∙ subst (λ y. is_among (taken ++ n ∷ []) y ≡ true) same (among-Contains (taken ++ n ∷ []) n (Contains-push taken n))))
      | inr k ↦ rows_held c (taken ++ n ∷ []) new rows a.name k
    ]
turn_by c taken old new n rows h e depend a held passes false hands =
    let now = and_right (not (is_among (taken ++ n ∷ []) a.name)) (list_all (is_at_hand (taken ++ n ∷ [])) a.dependencies) passes in
    let at : slice_get c held.0 ≡ Some a = slice_get_at c held.0 a held.1 (sym held.2) in
    rows_added c (taken ++ n ∷ []) new rows held.0 a (depend held.0 a at (new_among taken n a.dependencies hands now)) at passes

turn_whole : (c : List Article) (taken old new : List Name) (n : Name) (rows : List ℕ) → AreReady c taken old → old ≡ n ∷ new → All (λ m. n.number < m.number) new → ((r : ℕ) (a : Article) → slice_get c r ≡ Some a → Contains a.dependencies n → Contains rows r) → AreReady c (taken ++ n ∷ []) (with_rows c (taken ++ n ∷ []) new rows)
turn_whole c taken old new n rows h e above depend = record {
  all = λ a held passes. turn_by c taken old new n rows h e depend a held passes (list_all (is_at_hand taken) a.dependencies) refl;
  only = turn_only c taken old new n rows h e above;
}

pub AreReady-turn : (c : List Article) (taken old new last : List Name) (n : Name) (rows : List ℕ) → AreReady c taken old → old ≡ n ∷ new → All (λ m. n.number < m.number) new
    → ((r : ℕ) (a : Article) → slice_get c r ≡ Some a → Contains a.dependencies n → Contains rows r) → last ≡ with_rows c (with_name taken n) new rows → AreReady c (with_name taken n) last
AreReady-turn c taken old new last n rows h e above depend el =
    let first = IsFirstReady-popped c taken old new n h e above in
    let free : is_among taken n ≡ false = subst (λ m. is_among taken m ≡ false) first.named (unready taken first.article first.ready) in
    let more : with_name taken n ≡ taken ++ n ∷ [] = with_name-new taken n free in
    subst (λ ns. AreReady c (with_name taken n) ns) (sym el) (subst (λ ns. AreReady c ns (with_rows c ns new rows)) (sym more) (turn_whole c taken old new n rows h e above depend))
