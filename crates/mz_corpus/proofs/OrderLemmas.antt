-- Articles that are taken one after another.
use Rattle.std.proofs.Common.{◌≡◌, ℕ, ◌+◌, ◌<◌, ◌≤◌, ◌⊎◌, Bool, true, false, not, ◌&&◌, ◌||◌, ◌==◌, cond, List, [], ◌∷◌, ◌++◌, refl, sym, ap, subst, ◌∙◌, arith, inl, inr, append_assoc}
use Rattle.std.specs.Prelude.{Contains, map, filter}
use Rattle.std.specs.List.{list_all}
use Rattle.std.proofs.lemmas.Bool.{eq-eqb, false≢true}
use Rattle.mz_base.specs.declared.name.Name.{Name}
use Rattle.mz_corpus.specs.Article.{Article}
use Rattle.mz_corpus.specs.Ascending.{sorted_names}
use Rattle.mz_corpus.specs.Corpus.{names_of}
use Rattle.mz_corpus.specs.Names.{is_among, with_name}
use Rattle.mz_corpus.specs.Order.{is_at_hand, is_ready, IsFirstReady, Takes, take as take_first, IsOrder, left_names}
use Rattle.mz_corpus.proofs.ContainsLemmas.{Contains-head, Contains-tail, Contains-none, Contains-cases}
use Rattle.mz_corpus.proofs.AscendingLemmas.{IsAscending-sorted_names, Contains-from_sorted, Contains-to_sorted}

-- a further name

pub and_left : (a b : Bool) → a && b ≡ true → a ≡ true
and_left true b h = refl
and_left false b h = h

pub not_true : (a : Bool) → not a ≡ true → a ≡ false
not_true true h = sym h
not_true false h = refl

pub unready : (taken : List Name) (a : Article) → is_ready taken a ≡ true → is_among taken a.name ≡ false
unready taken a h = not_true (is_among taken a.name) (and_left (not (is_among taken a.name)) (list_all (is_at_hand taken) a.dependencies) h)

pub with_name-new : (ns : List Name) (n : Name) → is_among ns n ≡ false → with_name ns n ≡ ns ++ n ∷ []
with_name-new ns n h = ap (λ b. cond b ns (ns ++ n ∷ [])) h

or_assoc : (a b c : Bool) → (a || b) || c ≡ a || (b || c)
or_assoc true b c = refl
or_assoc false b c = refl

is_among-append : (ns ms : List Name) (n : Name) → is_among (ns ++ ms) n ≡ is_among ns n || is_among ms n
is_among-append [] ms n = refl
is_among-append (x ∷ xs) ms n = ap (λ b. (n.number == x.number) || b) (is_among-append xs ms n) ∙ sym (or_assoc (n.number == x.number) (is_among xs n) (is_among ms n))

is_among-itself : (ns : List Name) (n : Name) → is_among (ns ++ n ∷ []) n ≡ true
is_among-itself [] n = ap (λ b. b || false) (eq-eqb n.number n.number refl)
is_among-itself (x ∷ xs) n = ap (λ b. (n.number == x.number) || b) (is_among-itself xs n) ∙ or_true (n.number == x.number)
  where
    or_true : (a : Bool) → a || true ≡ true
    or_true true = refl
    or_true false = refl

-- how many names are left

abbrev pub counted : Bool → ℕ
counted true = 0
counted false = 1

abbrev pub left_count : List Name → List Name → ℕ
left_count [] taken = 0
left_count (m ∷ ms) taken = counted (is_among taken m) + left_count ms taken

counted-or : (a b : Bool) → counted (a || b) ≤ counted a
counted-or true b = omega arith
counted-or false true = omega arith
counted-or false false = omega arith

one_fewer : (taken : List Name) (n m : Name) → counted (is_among (taken ++ n ∷ []) m) ≤ counted (is_among taken m)
one_fewer taken n m = subst (λ b. counted b ≤ counted (is_among taken m)) (sym (is_among-append taken (n ∷ []) m)) (counted-or (is_among taken m) (is_among (n ∷ []) m))

fewer : (ms taken : List Name) (n : Name) → left_count ms (taken ++ n ∷ []) ≤ left_count ms taken
fewer [] taken n = omega arith
fewer (m ∷ ms) taken n = let one = one_fewer taken n m in let rest = fewer ms taken n in omega arith

pub left_count-less : (ms taken : List Name) (n : Name) → Contains ms n → is_among taken n ≡ false → left_count ms (taken ++ n ∷ []) < left_count ms taken
left_count-less [] taken n h new = absurd (Contains-none n h)
left_count-less (m ∷ ms) taken n h new =
    elim (Contains-cases m ms n h) [
      | inl e ↦
          (let one : counted (is_among (taken ++ n ∷ []) m) ≡ 0 = ap counted (subst (λ y. is_among (taken ++ n ∷ []) y ≡ true) (sym e) (is_among-itself taken n)) in
          let old : counted (is_among taken m) ≡ 1 = ap counted (subst (λ y. is_among taken y ≡ false) (sym e) new) in
          let rest = fewer ms taken n in
          omega arith)
      | inr k ↦ (let one = one_fewer taken n m in let rest = left_count-less ms taken n k new in omega arith)
    ]

pub Contains-map : {X Y : Type 0} (f : X → Y) (xs : List X) (x : X) → Contains xs x → Contains (map f xs) (f x)
Contains-map f [] x h = absurd (Contains-none x h)
Contains-map f (y ∷ ys) x h = elim (Contains-cases y ys x h) [ inl e ↦ subst (λ z. Contains (f y ∷ map f ys) (f z)) e (Contains-head (f y) (map f ys)) | inr k ↦ Contains-tail (f y) (map f ys) (f x) (Contains-map f ys x k) ]

-- a turn

taken_more : (c : List Article) (taken after : List Name) (n : Name) → IsFirstReady c taken n → after ≡ with_name taken n → after ≡ taken ++ n ∷ []
taken_more c taken after n first e = e ∙ with_name-new taken n (subst (λ m. is_among taken m ≡ false) first.named (unready taken first.article first.ready))

pub turn_less : (c : List Article) (taken after : List Name) (n : Name) → IsFirstReady c taken n → after ≡ with_name taken n → left_count (names_of c) after < left_count (names_of c) taken
turn_less c taken after n first e =
    let a = first.article in
    subst (λ ns. left_count (names_of c) ns < left_count (names_of c) taken) (sym (taken_more c taken after n first e))
    (subst (λ m. left_count (names_of c) (taken ++ m ∷ []) < left_count (names_of c) taken) first.named (left_count-less (names_of c) taken a.name (Contains-map (λ b. b.name) c a first.held) (unready taken a first.ready)))

pub turn_takes : (c : List Article) (taken after : List Name) (n : Name) → IsFirstReady c taken n → after ≡ with_name taken n
    → ((ns : List Name) → Takes c taken ns → Takes c [] (taken ++ ns)) → (ns : List Name) → Takes c after ns → Takes c [] (after ++ ns)
turn_takes c taken after n first e so_far ns takes =
    let more = taken_more c taken after n first e in
    subst (λ ms. Takes c [] (ms ++ ns)) (sym more)
    (subst (λ ms. Takes c [] ms) (sym (append_assoc taken (n ∷ []) ns)) (so_far (n ∷ ns) (take_first taken ns n first (subst (λ ms. Takes c ms ns) more takes))))

-- names that pass a test

filter_by : (p : Name → Bool) (m : Name) (ms : List Name) (n : Name) → (Contains (filter p ms) n → Contains ms n × (p n ≡ true)) → (b : Bool) → p m ≡ b → Contains (cond b (m ∷ filter p ms) (filter p ms)) n → Contains (m ∷ ms) n × (p n ≡ true)
filter_by p m ms n ih true e k =
    elim (Contains-cases m (filter p ms) n k) [
      | inl same ↦ (subst (λ x. Contains (m ∷ ms) x) same (Contains-head m ms), subst (λ x. p x ≡ true) same e)
      | inr j ↦ (let r = ih j in (Contains-tail m ms n r.0, r.1))
    ]
filter_by p m ms n ih false e k = let r = ih k in (Contains-tail m ms n r.0, r.1)

pub filter_in : (p : Name → Bool) (ns : List Name) (n : Name) → Contains (filter p ns) n → Contains ns n × (p n ≡ true)
filter_in p [] n h = absurd (Contains-none n h)
filter_in p (m ∷ ms) n h = filter_by p m ms n (filter_in p ms n) (p m) refl h

filtered_by : (p : Name → Bool) (m : Name) (ms : List Name) (n : Name) → p n ≡ true → (Contains ms n → Contains (filter p ms) n) → (b : Bool) → p m ≡ b → (m ≡ n) ⊎ Contains ms n → Contains (cond b (m ∷ filter p ms) (filter p ms)) n
filtered_by p m ms n passes ih true e (inl same) = subst (λ x. Contains (m ∷ filter p ms) x) same (Contains-head m (filter p ms))
filtered_by p m ms n passes ih true e (inr k) = Contains-tail m (filter p ms) n (ih k)
filtered_by p m ms n passes ih false e (inl same) = let bad : false ≡ true = sym e ∙ subst (λ x. p x ≡ true) (sym same) passes in absurd (false≢true bad)
filtered_by p m ms n passes ih false e (inr k) = ih k

pub in_filter : (p : Name → Bool) (ns : List Name) (n : Name) → Contains ns n → p n ≡ true → Contains (filter p ns) n
in_filter p [] n h passes = absurd (Contains-none n h)
in_filter p (m ∷ ms) n h passes = filtered_by p m ms n passes (λ k. in_filter p ms n k passes) (p m) refl (Contains-cases m ms n h)

-- the rest

pub IsOrder-made : (c : List Article) (taken left rest order : List Name) → Takes c [] taken → left ≡ left_names c taken → rest ≡ sorted_names left → order ≡ taken → IsOrder c (record { order = order; rest = rest })
IsOrder-made c taken left rest order takes el er eo = record {
  takes = subst (λ ns. Takes c [] ns) (sym eo) takes;
  rest_ascending = rw er (IsAscending-sorted_names left);
  rest = λ n h.
      let k : Contains (left_names c taken) n = subst (λ ns. Contains ns n) el (Contains-from_sorted left n (subst (λ ns. Contains ns n) er h)) in
      let r = filter_in (λ m. not (is_among taken m)) (names_of c) n k in
      (r.0, subst (λ ns. is_among ns n ≡ false) (sym eo) (not_true (is_among taken n) r.1));
  all = λ n held unmet.
      let free : not (is_among taken n) ≡ true = ap not (subst (λ ns. is_among ns n ≡ false) eo unmet) in
      let k : Contains left n = subst (λ ns. Contains ns n) (sym el) (in_filter (λ m. not (is_among taken m)) (names_of c) n held free) in
      subst (λ ns. Contains ns n) (sym er) (Contains-to_sorted left n k);
}

-- the same, for articles that are known by another value
pub IsOrder-viewed : (c d : List Article) (taken left rest order : List Name) → c ≡ d → Takes c [] taken → left ≡ left_names c taken → rest ≡ sorted_names left → order ≡ taken → IsOrder d (record { order = order; rest = rest })
IsOrder-viewed c d taken left rest order e takes el er eo = subst (λ x. IsOrder x (record { order = order; rest = rest })) e (IsOrder-made c taken left rest order takes el er eo)
