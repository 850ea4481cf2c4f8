-- Names in their order.
use Rattle.std.proofs.Common.{◌≡◌, ℕ, ◌<◌, ◌≤◌, ◌⊎◌, Bool, true, false, ◌||◌, ◌==◌, List, [], ◌∷◌, ◌++◌, refl, sym, ap, subst, ◌∙◌, arith, inl, inr}
use Rattle.std.specs.Prelude.{Contains, All, AllPairs, fold}
use Rattle.std.specs.List.{list_any}
use Rattle.std.specs.declared.cmp.Ordering.{Ordering}
use Rattle.std.specs.declared.cmp.Ordering.TheVariants.{Less, Equal, Greater}
use Rattle.std.specs.Ordering.{nat_cmp, match_ordering}
use Rattle.std.specs.Cmp.{nat_cmp_is}
use Rattle.std.proofs.lemmas.Bool.{false≢true, cases_lt, cases_eq, eqb-true, eq-eqb}
use Rattle.std.proofs.lemmas.List.Elements.{All-cons, All-nil, All-contains}
use Rattle.std.proofs.lemmas.List.Kept.{AllPairs-cons}
use Rattle.mz_base.specs.declared.name.Name.{Name}
use Rattle.mz_base.proofs.NameEqual.{Name-equal}
use Rattle.mz_corpus.specs.Ascending.{with_ascending, sorted_names}
use Rattle.mz_corpus.specs.Corpus.{IsAscending}
use Rattle.mz_corpus.specs.Names.{is_name_of, is_among, with_name}
use Rattle.mz_corpus.proofs.ContainsLemmas.{Contains-head, Contains-tail, Contains-none, Contains-cases}

-- names by their numbers

abbrev pub IsTrichotomy : Ordering → ℕ → ℕ → Type 0
IsTrichotomy Less a b = a < b
IsTrichotomy Equal a b = a ≡ b
IsTrichotomy Greater a b = b < a

pub record Compared (a b : ℕ) : Type 0 where
  pub answer : Ordering
  pub is : nat_cmp a b ≡ answer
  pub holds : IsTrichotomy answer a b

pub compared : (a b : ℕ) → Compared a b
compared a b =
    elim (cases_lt a b) [
      | inl lt ↦ record { answer = Less; is = sym (nat_cmp_is a b Less lt); holds = lt }
      | inr le ↦ elim (cases_eq a b) [
        | inl same ↦ record { answer = Equal; is = sym (nat_cmp_is a b Equal same); holds = same }
        | inr other ↦ let gt : b < a = omega arith in record { answer = Greater; is = sym (nat_cmp_is a b Greater gt); holds = gt }
      ]
    ]

-- one more name

with_ascending-inserted : (n x : Name) (xs : List Name) (o : Ordering) → nat_cmp n.number x.number ≡ o → with_ascending (x ∷ xs) n ≡ match_ordering o (n ∷ x ∷ xs) (x ∷ xs) (x ∷ with_ascending xs n)
with_ascending-inserted n x xs o e = ap (λ r. match_ordering r (n ∷ x ∷ xs) (x ∷ xs) (x ∷ with_ascending xs n)) e

abbrev IsSplit : List Name → Name → Name → Type 0
IsSplit ns n m = Contains ns m ⊎ (n ≡ m)

later : (x : Name) (xs : List Name) (n m : Name) → IsSplit xs n m → IsSplit (x ∷ xs) n m
later x xs n m (inl h) = inl (Contains-tail x xs m h)
later x xs n m (inr e) = inr e

split_by : (x : Name) (xs : List Name) (n m : Name) → (Contains (with_ascending xs n) m → Contains xs m ⊎ (n ≡ m)) → (o : Ordering) → Contains (match_ordering o (n ∷ x ∷ xs) (x ∷ xs) (x ∷ with_ascending xs n)) m → Contains (x ∷ xs) m ⊎ (n ≡ m)
split_by x xs n m ih Less h = elim (Contains-cases n (x ∷ xs) m h) [ inl e ↦ inr e | inr k ↦ inl k ]
split_by x xs n m ih Equal h = inl h
split_by x xs n m ih Greater h =
    elim (Contains-cases x (with_ascending xs n) m h) [ inl e ↦ inl (subst (λ y. Contains (x ∷ xs) y) e (Contains-head x xs)) | inr k ↦ later x xs n m (ih k) ]

pub Contains-with_ascending : (ns : List Name) (n m : Name) → Contains (with_ascending ns n) m → Contains ns m ⊎ (n ≡ m)
Contains-with_ascending [] n m h = elim (Contains-cases n [] m h) [ inl e ↦ inr e | inr k ↦ absurd (Contains-none m k) ]
Contains-with_ascending (x ∷ xs) n m h =
    let c = compared n.number x.number in split_by x xs n m (Contains-with_ascending xs n m) c.answer (subst (λ ns. Contains ns m) (with_ascending-inserted n x xs c.answer c.is) h)

kept_by : (x : Name) (xs : List Name) (n m : Name) → (Contains xs m → Contains (with_ascending xs n) m) → (o : Ordering) → Contains (x ∷ xs) m → Contains (match_ordering o (n ∷ x ∷ xs) (x ∷ xs) (x ∷ with_ascending xs n)) m
kept_by x xs n m ih Less h = Contains-tail n (x ∷ xs) m h
kept_by x xs n m ih Equal h = h
kept_by x xs n m ih Greater h =
    elim (Contains-cases x xs m h) [ inl e ↦ subst (λ y. Contains (x ∷ with_ascending xs n) y) e (Contains-head x (with_ascending xs n)) | inr k ↦ Contains-tail x (with_ascending xs n) m (ih k) ]

pub Contains-kept : (ns : List Name) (n m : Name) → Contains ns m → Contains (with_ascending ns n) m
Contains-kept [] n m h = absurd (Contains-none m h)
Contains-kept (x ∷ xs) n m h = let c = compared n.number x.number in subst (λ ns. Contains ns m) (sym (with_ascending-inserted n x xs c.answer c.is)) (kept_by x xs n m (Contains-kept xs n m) c.answer h)

added_by : (x : Name) (xs : List Name) (n : Name) → Contains (with_ascending xs n) n → (o : Ordering) → IsTrichotomy o n.number x.number → Contains (match_ordering o (n ∷ x ∷ xs) (x ∷ xs) (x ∷ with_ascending xs n)) n
added_by x xs n ih Less h = Contains-head n (x ∷ xs)
added_by x xs n ih Equal h = subst (λ y. Contains (x ∷ xs) y) (sym (Name-equal n x h)) (Contains-head x xs)
added_by x xs n ih Greater h = Contains-tail x (with_ascending xs n) n ih

pub Contains-added : (ns : List Name) (n : Name) → Contains (with_ascending ns n) n
Contains-added [] n = Contains-head n []
Contains-added (x ∷ xs) n = let c = compared n.number x.number in subst (λ ns. Contains ns n) (sym (with_ascending-inserted n x xs c.answer c.is)) (added_by x xs n (Contains-added xs n) c.answer c.holds)

-- names that ascend, by recursion

abbrev pub Rises : List Name → Type 0
Rises [] = Unit {0}
Rises (x ∷ xs) = ((m : Name) → Contains xs m → x.number < m.number) × Rises xs

rises_by : (x : Name) (xs : List Name) (n : Name) → Rises (with_ascending xs n) → (o : Ordering) → IsTrichotomy o n.number x.number → Rises (x ∷ xs) → Rises (match_ordering o (n ∷ x ∷ xs) (x ∷ xs) (x ∷ with_ascending xs n))
rises_by x xs n ih Less lt h =
    ((λ m k. elim (Contains-cases x xs m k) [ inl e ↦ subst (λ y. n.number < y.number) e lt | inr j ↦ (let below = h.0 m j in omega arith) ]), h)
rises_by x xs n ih Equal e h = h
rises_by x xs n ih Greater gt h =
    ((λ m k. elim (Contains-with_ascending xs n m k) [ inl j ↦ h.0 m j | inr e ↦ subst (λ y. x.number < y.number) e gt ]), ih)

Rises-with_ascending : (ns : List Name) (n : Name) → Rises ns → Rises (with_ascending ns n)
Rises-with_ascending [] n h = ((λ m k. absurd (Contains-none m k)), tt)
Rises-with_ascending (x ∷ xs) n h =
    let c = compared n.number x.number in subst Rises (sym (with_ascending-inserted n x xs c.answer c.is)) (rises_by x xs n (Rises-with_ascending xs n h.1) c.answer c.holds h)

pub every : {X : Type 0} (P : X → Type 0) (xs : List X) → ((y : X) → Contains xs y → P y) → All P xs
every P [] h = All-nil P
every P (x ∷ xs) h = All-cons P x xs (h x (Contains-head x xs)) (every P xs (λ m k. h m (Contains-tail x xs m k)))

IsAscending-rises : (ns : List Name) → Rises ns → IsAscending ns
IsAscending-rises [] h = λ i j d lt within. omega arith
IsAscending-rises (x ∷ xs) h = AllPairs-cons (λ m n. m.number < n.number) x xs (every (λ m. x.number < m.number) xs h.0) (IsAscending-rises xs h.1)

-- the names in their order

Rises-fold : (ns ms : List Name) → Rises ms → Rises (fold with_ascending ms ns)
Rises-fold [] ms h = h
Rises-fold (n ∷ ns) ms h = Rises-fold ns (with_ascending ms n) (Rises-with_ascending ms n h)

pub Rises-sorted_names : (ns : List Name) → Rises (sorted_names ns)
Rises-sorted_names ns = Rises-fold ns [] tt

pub IsAscending-sorted_names : (ns : List Name) → IsAscending (sorted_names ns)
IsAscending-sorted_names ns = IsAscending-rises (sorted_names ns) (Rises-fold ns [] tt)

from_fold : (ns ms : List Name) (m : Name) → Contains (fold with_ascending ms ns) m → Contains ns m ⊎ Contains ms m
from_fold [] ms m h = inr h
from_fold (n ∷ ns) ms m h =
    elim (from_fold ns (with_ascending ms n) m h) [
      | inl k ↦ inl (Contains-tail n ns m k)
      | inr k ↦ elim (Contains-with_ascending ms n m k) [ inl j ↦ inr j | inr e ↦ inl (subst (λ y. Contains (n ∷ ns) y) e (Contains-head n ns)) ]
    ]

kept_fold : (ns ms : List Name) (m : Name) → Contains ms m → Contains (fold with_ascending ms ns) m
kept_fold [] ms m h = h
kept_fold (n ∷ ns) ms m h = kept_fold ns (with_ascending ms n) m (Contains-kept ms n m h)

to_fold : (ns ms : List Name) (m : Name) → Contains ns m → Contains (fold with_ascending ms ns) m
to_fold [] ms m h = absurd (Contains-none m h)
to_fold (n ∷ ns) ms m h =
    elim (Contains-cases n ns m h) [
      | inl e ↦ kept_fold ns (with_ascending ms n) m (subst (λ y. Contains (with_ascending ms n) y) e (Contains-added ms n))
      | inr k ↦ to_fold ns (with_ascending ms n) m k
    ]

pub Contains-from_sorted : (ns : List Name) (m : Name) → Contains (sorted_names ns) m → Contains ns m
Contains-from_sorted ns m h = elim (from_fold ns [] m h) [ inl k ↦ k | inr k ↦ absurd (Contains-none m k) ]

pub Contains-to_sorted : (ns : List Name) (m : Name) → Contains ns m → Contains (sorted_names ns) m
Contains-to_sorted ns m h = to_fold ns [] m h

-- whether a name is among names

among_by : (x : Name) (xs : List Name) (n : Name) (b : Bool) → (n.number == x.number) ≡ b → b || is_among xs n ≡ true → (x ≡ n) ⊎ (is_among xs n ≡ true)
among_by x xs n true e h = inl (Name-equal x n (sym (eqb-true n.number x.number e)))
among_by x xs n false e h = inr h

pub Contains-among : (ns : List Name) (n : Name) → is_among ns n ≡ true → Contains ns n
Contains-among [] n h = absurd (false≢true h)
Contains-among (x ∷ xs) n h =
    elim (among_by x xs n (n.number == x.number) refl h) [ inl e ↦ subst (λ y. Contains (x ∷ xs) y) e (Contains-head x xs) | inr k ↦ Contains-tail x xs n (Contains-among xs n k) ]

or_true : (a : Bool) → a || true ≡ true
or_true true = refl
or_true false = refl

pub among-Contains : (ns : List Name) (n : Name) → Contains ns n → is_among ns n ≡ true
among-Contains [] n h = absurd (Contains-none n h)
among-Contains (x ∷ xs) n h =
    elim (Contains-cases x xs n h) [
      | inl e ↦ (let same : (n.number == x.number) ≡ true = eq-eqb n.number x.number (ap (λ y. y.number) (sym e)) in ap (λ b. b || is_among xs n) same)
      | inr k ↦ ap (λ b. (n.number == x.number) || b) (among-Contains xs n k) ∙ or_true (n.number == x.number)
    ]
