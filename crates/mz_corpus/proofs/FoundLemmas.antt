-- Vocabularies that were found.
use Rattle.std.proofs.Common.{◌≡◌, ℕ, ◌<◌, ◌⊎◌, Bool, true, false, ◌==◌, cond, List, [], ◌∷◌, ◌++◌, length, Option, Some, None, is_some, refl, sym, ap, subst, ◌∙◌, arith, inl, inr}
use Rattle.std.specs.Prelude.{Contains, AllPairs, find, flat_map}
use Rattle.std.specs.Option.{option_to_list}
use Rattle.std.proofs.lemmas.Bool.{eqb-true, eq-eqb, false≢true}
use Rattle.std.proofs.lemmas.List.Elements.{Contains-append_left, Contains-append_right, Contains-append_cases}
use Rattle.std.proofs.lemmas.List.Kept.{AllPairs-cons}
use Rattle.mz_base.specs.declared.name.Name.{Name}
use Rattle.mz_base.specs.NamedText.{NamedText}
use Rattle.mz_base.proofs.NameEqual.{Name-equal}
use Rattle.mz_corpus.specs.Ascending.{sorted_names}
use Rattle.mz_corpus.specs.Corpus.{AreFound}
use Rattle.mz_corpus.specs.Fit.{AreApart}
use Rattle.mz_corpus.specs.Found.{is_text_of, text_with, with_text, with_bytes, with_bytes_of, found_by, found_list, found_in}
use Rattle.mz_corpus.proofs.ContainsLemmas.{Contains-head, Contains-tail, Contains-none, Contains-cases}
use Rattle.mz_corpus.proofs.AscendingLemmas.{Rises, Rises-sorted_names, every, Contains-from_sorted, Contains-to_sorted}

-- what is made of each element

record Made {X Y : Type 0} (f : X → List Y) (xs : List X) (y : Y) : Type 0 where
  from : X
  held : Contains xs from
  has : Contains (f from) y

in_flat_map : {X Y : Type 0} (f : X → List Y) (xs : List X) (y : Y) → Contains (flat_map f xs) y → Made f xs y
in_flat_map f [] y h = absurd (Contains-none y h)
in_flat_map f (x ∷ xs) y h =
    elim (Contains-append_cases (f x) (flat_map f xs) y h) [
      | inl k ↦ record { from = x; held = Contains-head x xs; has = k }
      | inr k ↦ (let r = in_flat_map f xs y k in record { from = r.from; held = Contains-tail x xs r.from r.held; has = r.has })
    ]

to_flat_map : {X Y : Type 0} (f : X → List Y) (xs : List X) (x : X) (y : Y) → Contains xs x → Contains (f x) y → Contains (flat_map f xs) y
to_flat_map f [] x y h k = absurd (Contains-none x h)
to_flat_map f (z ∷ xs) x y h k =
    elim (Contains-cases z xs x h) [
      | inl e ↦ Contains-append_left (f z) (flat_map f xs) y (subst (λ w. Contains (f w) y) (sym e) k)
      | inr j ↦ Contains-append_right (f z) (flat_map f xs) y (to_flat_map f xs x y j k)
    ]

-- the vocabulary of a name

record IsOf (all : List NamedText) (n : Name) (v : NamedText) : Type 0 where
  held : Contains all v
  texted : is_some v.text ≡ true
  named : v.name ≡ n

first_by : (w : NamedText) (all : List NamedText) (n : Name) (v : NamedText) → (find (is_text_of n) all ≡ Some v → Contains all v × (v.name ≡ n)) → (b : Bool) → is_text_of n w ≡ b → cond b (Some w) (find (is_text_of n) all) ≡ Some v → Contains (w ∷ all) v × (v.name ≡ n)
first_by w all n v ih true is found =
    let same : w ≡ v = cc in
    (subst (λ x. Contains (w ∷ all) x) same (Contains-head w all), subst (λ x. x.name ≡ n) same (Name-equal w.name n (sym (eqb-true n.number w.name.number is))))
first_by w all n v ih false is found = let r = ih found in (Contains-tail w all v r.0, r.1)

found_first : (all : List NamedText) (n : Name) (v : NamedText) → find (is_text_of n) all ≡ Some v → Contains all v × (v.name ≡ n)
found_first [] n v e = absurd (let bad : None ≡ Some v = e in cc)
found_first (w ∷ all) n v e = first_by w all n v (found_first all n v) (is_text_of n w) refl e

by_text : (all : List NamedText) (n : Name) (w v : NamedText) (t : Option (List ℕ)) → w.text ≡ t → with_text w t ≡ Some v → find (is_text_of n) all ≡ Some w → IsOf all n v
by_text all n w v None e is found = absurd (let bad : None ≡ Some v = is in cc)
by_text all n w v (Some bytes) e is found =
    let same : w ≡ v = cc in
    let r = found_first all n w found in
    record { held = subst (λ x. Contains all x) same r.0; texted = subst (λ x. is_some x.text ≡ true) same (ap is_some e); named = subst (λ x. x.name ≡ n) same r.1 }

by_first : (all : List NamedText) (n : Name) (v : NamedText) (o : Option NamedText) → find (is_text_of n) all ≡ o → with_bytes_of o ≡ Some v → IsOf all n v
by_first all n v None e is = absurd (let bad : None ≡ Some v = is in cc)
by_first all n v (Some w) e is = by_text all n w v w.text refl is e

in_option : (o : Option NamedText) (v : NamedText) → Contains (option_to_list o) v → o ≡ Some v
in_option None v h = absurd (Contains-none v h)
in_option (Some w) v h = elim (Contains-cases w [] v h) [ inl e ↦ ap (λ x. Some x) e | inr k ↦ absurd (Contains-none v k) ]

in_found_list : (all : List NamedText) (n : Name) (v : NamedText) → Contains (found_list all n) v → IsOf all n v
in_found_list all n v h = by_first all n v (find (is_text_of n) all) refl (in_option (found_by all n) v h)

-- vocabularies whose names tell them apart

some_by : (x : NamedText) (all : List NamedText) (v : NamedText) → (Contains all v → (w : NamedText) × (find (is_text_of v.name) all ≡ Some w)) → (b : Bool) → is_text_of v.name x ≡ b → (x ≡ v) ⊎ Contains all v → (w : NamedText) × (cond b (Some x) (find (is_text_of v.name) all) ≡ Some w)
some_by x all v ih true is k = (x, refl)
some_by x all v ih false is (inl e) = let yes : is_text_of v.name x ≡ true = eq-eqb v.name.number x.name.number (ap (λ y. y.name.number) (sym e)) in absurd (false≢true (sym is ∙ yes))
some_by x all v ih false is (inr k) = ih k

some_found : (all : List NamedText) (v : NamedText) → Contains all v → (w : NamedText) × (find (is_text_of v.name) all ≡ Some w)
some_found [] v h = absurd (Contains-none v h)
some_found (x ∷ all) v h = some_by x all v (some_found all v) (is_text_of v.name x) refl (Contains-cases x all v h)

texted : (v : NamedText) (t : Option (List ℕ)) → is_some t ≡ true → with_text v t ≡ Some v
texted v None h = absurd (false≢true h)
texted v (Some bytes) h = refl

found_itself : (all : List NamedText) (v : NamedText) → AreApart all → Contains all v → is_some v.text ≡ true → found_by all v.name ≡ Some v
found_itself all v apart held some =
    let w = some_found all v held in
    let r = found_first all v.name w.0 w.1 in
    let same : w.0 ≡ v = apart w.0 v r.0 held r.1 in
    ap with_bytes_of (w.1 ∙ ap (λ x. Some x) same) ∙ texted v v.text some

in_itself : (o : Option NamedText) (v : NamedText) → o ≡ Some v → Contains (option_to_list o) v
in_itself o v e = subst (λ p. Contains (option_to_list p) v) (sym e) (Contains-head v [])

-- in the order of names

abbrev Ascends : List NamedText → Type 0
Ascends [] = Unit {0}
Ascends (v ∷ vs) = ((w : NamedText) → Contains vs w → v.name.number < w.name.number) × Ascends vs

AllPairs-ascends : (vs : List NamedText) → Ascends vs → AllPairs (λ v w. v.name.number < w.name.number) vs
AllPairs-ascends [] h = λ i j d lt within. omega arith
AllPairs-ascends (v ∷ vs) h = AllPairs-cons (λ v w. v.name.number < w.name.number) v vs (every (λ w. v.name.number < w.name.number) vs h.0) (AllPairs-ascends vs h.1)

ascends_by : (all : List NamedText) (n : Name) (ns : List Name) (o : Option NamedText) → found_by all n ≡ o → ((m : Name) → Contains ns m → n.number < m.number) → Ascends (flat_map (found_list all) ns) → Ascends (option_to_list o ++ flat_map (found_list all) ns)
ascends_by all n ns None e below h = h
ascends_by all n ns (Some v) e below h = (
  (λ w k.
      let r = in_flat_map (found_list all) ns w k in
      let mine = in_found_list all n v (in_itself (found_by all n) v e) in
      let theirs = in_found_list all r.from w r.has in
      let lt = below r.from r.held in
      let a = ap (λ x. x.number) mine.named in
      let b = ap (λ x. x.number) theirs.named in
      omega arith),
  h,
)

ascends_found : (all : List NamedText) (ns : List Name) → Rises ns → Ascends (flat_map (found_list all) ns)
ascends_found all [] h = tt
ascends_found all (n ∷ ns) h = ascends_by all n ns (found_by all n) refl h.0 (ascends_found all ns h.1)

pub AreFound-found_in : (all : List NamedText) (ns : List Name) → AreApart all → AreFound all ns (found_in all ns)
AreFound-found_in all ns apart = record {
  ascending = AllPairs-ascends (found_in all ns) (ascends_found all (sorted_names ns) (Rises-sorted_names ns));
  fetched = λ v h.
      let r = in_flat_map (found_list all) (sorted_names ns) v h in
      let k = in_found_list all r.from v r.has in
      (k.held, k.texted, subst (λ n. Contains ns n) (sym k.named) (Contains-from_sorted ns r.from r.held));
  each = λ v held some named.
      to_flat_map (found_list all) (sorted_names ns) v.name v (Contains-to_sorted ns v.name named) (in_itself (found_by all v.name) v (found_itself all v apart held some));
}
