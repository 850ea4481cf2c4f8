-- Which numbers a list of numbers below a bound has, and in which order.
use Rattle.std.proofs.Common.{◌≡◌, ◌<◌, ◌≤◌, ◌+◌, ℕ, zero, suc, List, [], ◌∷◌, ◌++◌, length, refl, ap, sym, ◌∙◌, subst, arith, true, false, Bool, inl, inr, ◌⊎◌}
use Rattle.std.specs.Prelude.{slice_index, Contains, Some, None, if◌then◌else◌}
use Rattle.std.specs.List.Sorted.{IsStrictlyIncreasing}
use Rattle.std.proofs.lemmas.List.{append-nil, get_or_default, length_push, get_or_append_left, get_or_push}
use Rattle.std.proofs.lemmas.List.Elements.{Contains-append_left, Contains-push, Contains-push_cases}
use Rattle.mz_congruence.proofs.RootLemmas.{cases_lt}
use Rattle.mz_congruence.proofs.ListLemmas.{some_same, none_some}
use Rattle.mz_classes.specs.Numbers.{first_of, numbers_where}

abbrev pub if_listed : Bool → ℕ → List ℕ
if_listed b n = if b then n ∷ [] else []

-- which numbers it has
pub where_within : (p : ℕ → Bool) (n m : ℕ) → Contains (numbers_where p n) m → (m < n) × (p m ≡ true)
where_within p zero m c = absurd (omega (arith, c.1))
where_within p (suc n) m c =
    let here : (b : Bool) → p n ≡ b → Contains (numbers_where p n ++ if_listed b n) m → (m < suc n) × (p m ≡ true)
    = elim [
      | true ↦ λ e h. elim (Contains-push_cases (numbers_where p n) n m h) [
        | inl q ↦ let w = where_within p n m q in (omega (arith, w.0), w.1)
        | inr q ↦ (omega (arith, q), ap p (sym q) ∙ e)
      ]
      | false ↦ λ e h. let w = where_within p n m (subst (λ (xs : List ℕ). Contains xs m) (append-nil (numbers_where p n)) h) in (omega (arith, w.0), w.1)
    ] in
    here (p n) refl c

where_last : (p : ℕ → Bool) (n : ℕ) → p n ≡ true → Contains (numbers_where p (suc n)) n
where_last p n e = rw e (Contains-push (numbers_where p n) n)

pub where_has : (p : ℕ → Bool) (n m : ℕ) → m < n → p m ≡ true → Contains (numbers_where p n) m
where_has p zero m lt e = absurd (omega (arith, lt))
where_has p (suc n) m lt e =
    elim (cases_lt m n) [
      | inl q ↦ Contains-append_left (numbers_where p n) (if_listed (p n) n) m (where_has p n m q e)
      | inr q ↦ let same : n ≡ m = omega (arith, q, lt) in subst (λ (k : ℕ). Contains (numbers_where p (suc n)) k) same (where_last p n (ap p same ∙ e))
    ]

-- in which order
where_below : (p : ℕ → Bool) (n k : ℕ) → k < length (numbers_where p n) → slice_index (numbers_where p n) k < n
where_below p n k lt = (where_within p n (slice_index (numbers_where p n) k) (k, lt, get_or_default (numbers_where p n) k (slice_index (numbers_where p n) k) 0 lt)).0

pushed_ascending : (xs : List ℕ) (n : ℕ) → IsStrictlyIncreasing xs → ((k : ℕ) → k < length xs → slice_index xs k < n) → IsStrictlyIncreasing (xs ++ n ∷ [])
pushed_ascending xs n asc below k lt =
    let long : length (xs ++ n ∷ []) ≡ length xs + 1 = length_push xs n in
    let here : slice_index (xs ++ n ∷ []) k ≡ slice_index xs k = get_or_append_left xs (n ∷ []) 0 k (omega (arith, long, lt)) in
    elim (cases_lt (k + 1) (length xs)) [
      | inl q ↦
          let next : slice_index (xs ++ n ∷ []) (k + 1) ≡ slice_index xs (k + 1) = get_or_append_left xs (n ∷ []) 0 (k + 1) q in
          omega (arith, here, next, asc k q)
      | inr q ↦
          let next : slice_index (xs ++ n ∷ []) (k + 1) ≡ n = get_or_push xs n 0 (k + 1) (omega (arith, q, lt, long)) in
          omega (arith, here, next, below k (omega (arith, long, lt)))
    ]

pub where_ascending : (p : ℕ → Bool) (n : ℕ) → IsStrictlyIncreasing (numbers_where p n)
where_ascending p zero = λ k lt. absurd (omega (arith, lt))
where_ascending p (suc n) =
    let here : (b : Bool) → IsStrictlyIncreasing (numbers_where p n ++ if_listed b n)
    = elim [
      | true ↦ pushed_ascending (numbers_where p n) n (where_ascending p n) (where_below p n)
      | false ↦ subst (λ (xs : List ℕ). IsStrictlyIncreasing xs) (sym (append-nil (numbers_where p n))) (where_ascending p n)
    ] in
    here (p n)

-- its first number
pub record IsFirstNumber (p : ℕ → Bool) (n k : ℕ) : Type 0 where
  pub within : k < n
  pub holds : p k ≡ true
  pub least : (m : ℕ) → m < k → p m ≡ true → ⊥

nil_first : (xs : List ℕ) → first_of xs ≡ None → xs ≡ []
nil_first [] e = refl
nil_first (x ∷ xs) e = cc

first_contained : (xs : List ℕ) (k : ℕ) → first_of xs ≡ Some k → Contains xs k
first_contained [] k e = absurd (none_some e)
first_contained (x ∷ xs) k e = (0, omega arith, some_same e)

first_index : (xs : List ℕ) (k : ℕ) → first_of xs ≡ Some k → slice_index xs 0 ≡ k
first_index [] k e = absurd (none_some e)
first_index (x ∷ xs) k e = some_same e

-- the first number of an ascending list is at most any other
first_least : (xs : List ℕ) (k : ℕ) → IsStrictlyIncreasing xs → slice_index xs 0 ≡ k → (i : ℕ) → i < length xs → k ≤ slice_index xs i
first_least xs k asc e zero lt = omega (arith, e)
first_least xs k asc e (suc i) lt =
    let next : slice_index xs i < slice_index xs (i + 1) = asc i (omega (arith, lt)) in
    let at : i + 1 ≡ suc i = omega arith in
    omega (arith, first_least xs k asc e i (omega (arith, lt)), next, ap (slice_index xs) at)

first_below : (xs : List ℕ) (k m : ℕ) → IsStrictlyIncreasing xs → first_of xs ≡ Some k → Contains xs m → m < k → ⊥
first_below xs k m asc e c lt =
    let at : slice_index xs c.0 ≡ m = get_or_default xs c.0 0 m c.1 ∙ c.2 in
    omega (arith, first_least xs k asc (first_index xs k e) c.0 c.1, at, lt)

pub first_number : (p : ℕ → Bool) (n k : ℕ) → first_of (numbers_where p n) ≡ Some k → IsFirstNumber p n k
first_number p n k e =
    let c : Contains (numbers_where p n) k = first_contained (numbers_where p n) k e in
    let w = where_within p n k c in
    record { within = w.0; holds = w.1; least = λ m lt h. first_below (numbers_where p n) k m (where_ascending p n) e (where_has p n m (omega (arith, lt, w.0)) h) lt }

pub no_number : (p : ℕ → Bool) (n m : ℕ) → first_of (numbers_where p n) ≡ None → m < n → p m ≡ true → ⊥
no_number p n m e lt h = let c = subst (λ (xs : List ℕ). Contains xs m) (nil_first (numbers_where p n) e) (where_has p n m lt h) in omega (arith, c.1)
