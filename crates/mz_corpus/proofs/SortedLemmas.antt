-- Lists that ascend by a number.
use Rattle.std.proofs.Common.{◌≡◌, ℕ, zero, suc, ◌<◌, ◌≤◌, ◌⊎◌, List, [], ◌∷◌, length, get_or, refl, sym, ap, subst, arith, inl, inr}
use Rattle.std.specs.Prelude.{Contains, AllPairs}
use Rattle.mz_corpus.proofs.ContainsLemmas.{Contains-head, Contains-tail, Contains-none, Contains-cases}

-- each is below the later ones, by recursion

abbrev pub RisesBy : {X : Type 0} → (X → ℕ) → List X → Type 0
RisesBy key [] = Unit {0}
RisesBy {X = X} key (x ∷ xs) = ((y : X) → Contains xs y → key x < key y) × RisesBy key xs

tail_pairs : {X : Type 0} (key : X → ℕ) (x : X) (xs : List X) → AllPairs (λ y z. key y < key z) (x ∷ xs) → AllPairs (λ y z. key y < key z) xs
tail_pairs key x xs h = λ i j d lt within. h (suc i) (suc j) d (omega arith) (omega arith)

head_below : {X : Type 0} (key : X → ℕ) (x : X) (xs : List X) → AllPairs (λ y z. key y < key z) (x ∷ xs) → (y : X) → Contains xs y → key x < key y
head_below key x xs h y k = subst (λ z. key x < key z) k.2 (h zero (suc k.0) y (omega arith) (let lt = k.1 in omega arith))

pub RisesBy-pairs : {X : Type 0} (key : X → ℕ) (xs : List X) → AllPairs (λ y z. key y < key z) xs → RisesBy key xs
RisesBy-pairs key [] h = tt
RisesBy-pairs key (x ∷ xs) h = (head_below key x xs h, RisesBy-pairs key xs (tail_pairs key x xs h))

-- lists that ascend and have the same elements are equal

abbrev IsWithin : {X : Type 0} → List X → List X → Type 0
IsWithin {X = X} xs ys = (x : X) → Contains xs x → Contains ys x

least : {X : Type 0} (key : X → ℕ) (y : X) (ys : List X) (x : X) → RisesBy key (y ∷ ys) → Contains (y ∷ ys) x → key y ≤ key x
least key y ys x h k = elim (Contains-cases y ys x k) [ inl e ↦ subst (λ z. key y ≤ key z) e (omega arith) | inr j ↦ (let lt = h.0 x j in omega arith) ]

same_head : {X : Type 0} (key : X → ℕ) (x y : X) (xs ys : List X) → RisesBy key (x ∷ xs) → RisesBy key (y ∷ ys) → IsWithin (x ∷ xs) (y ∷ ys) → IsWithin (y ∷ ys) (x ∷ xs) → x ≡ y
same_head key x y xs ys h k to from =
    let le = least key x xs y h (from y (Contains-head y ys)) in
    elim (Contains-cases y ys x (to x (Contains-head x xs))) [ inl e ↦ sym e | inr j ↦ absurd (let lt = k.0 x j in let bad : ⊥ = omega arith in bad) ]

in_tail : {X : Type 0} (key : X → ℕ) (x y : X) (xs ys : List X) → x ≡ y → RisesBy key (x ∷ xs) → IsWithin (x ∷ xs) (y ∷ ys) → IsWithin xs ys
in_tail key x y xs ys same h to z k =
    elim (Contains-cases y ys z (to z (Contains-tail x xs z k))) [
      | inl e ↦ absurd (let lt = h.0 z k in let eq : key x ≡ key y = ap key same in let eq' : key y ≡ key z = ap key e in let bad : ⊥ = omega arith in bad)
      | inr j ↦ j
    ]

pub one_sorted : {X : Type 0} (key : X → ℕ) (xs ys : List X) → RisesBy key xs → RisesBy key ys → ((x : X) → Contains xs x → Contains ys x) → ((x : X) → Contains ys x → Contains xs x) → xs ≡ ys
one_sorted key [] [] h k to from = refl
one_sorted key [] (y ∷ ys) h k to from = absurd (Contains-none y (from y (Contains-head y ys)))
one_sorted key (x ∷ xs) [] h k to from = absurd (Contains-none x (to x (Contains-head x xs)))
one_sorted key (x ∷ xs) (y ∷ ys) h k to from =
    let same = same_head key x y xs ys h k to from in
    let tail = one_sorted key xs ys h.1 k.1 (in_tail key x y xs ys same h to) (in_tail key y x ys xs (sym same) k from) in
    λ i. same i ∷ tail i
