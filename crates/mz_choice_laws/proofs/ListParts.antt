-- What holds of each element of a list holds of each of its parts.
use Rattle.std.proofs.Common.{◌≡◌, ℕ, zero, suc, Bool, true, false, List, [], ◌∷◌, ◌++◌, refl, subst, arith, Option, Some, take, drop}
use Rattle.std.specs.Prelude.{if◌then◌else◌, Contains, find, slice_get, slice_set, flat_map}
use Rattle.std.specs.List.{list_all, filter}
use Rattle.std.proofs.lemmas.Bool.{and_parts, and_from}
use Rattle.mz_core.proofs.AllLemmas.{all-append}
use Rattle.mz_fits.proofs.OneMatch.{some-inj, none_some}

pub all-left : {X : Type 0} (p : X → Bool) (xs ys : List X) → list_all p (xs ++ ys) ≡ true → list_all p xs ≡ true
all-left p [] ys h = refl
all-left p (x ∷ xs) ys h =
    let both : (p x ≡ true) × (list_all p (xs ++ ys) ≡ true) = and_parts (p x) (list_all p (xs ++ ys)) h in
    and_from (p x) (list_all p xs) both.0 (all-left p xs ys both.1)

pub all-right : {X : Type 0} (p : X → Bool) (xs ys : List X) → list_all p (xs ++ ys) ≡ true → list_all p ys ≡ true
all-right p [] ys h = h
all-right p (x ∷ xs) ys h = all-right p xs ys (and_parts (p x) (list_all p (xs ++ ys)) h).1

pub all-take : {X : Type 0} (p : X → Bool) (k : ℕ) (xs : List X) → list_all p xs ≡ true → list_all p (take k xs) ≡ true
all-take p zero xs h = refl
all-take p (suc k) [] h = refl
all-take p (suc k) (x ∷ xs) h =
    let both : (p x ≡ true) × (list_all p xs ≡ true) = and_parts (p x) (list_all p xs) h in
    and_from (p x) (list_all p (take k xs)) both.0 (all-take p k xs both.1)

pub all-drop : {X : Type 0} (p : X → Bool) (k : ℕ) (xs : List X) → list_all p xs ≡ true → list_all p (drop k xs) ≡ true
all-drop p zero xs h = h
all-drop p (suc k) [] h = refl
all-drop p (suc k) (x ∷ xs) h = all-drop p k xs (and_parts (p x) (list_all p xs) h).1

filter_step : {X : Type 0} (p q : X → Bool) (x : X) (xs : List X) (b : Bool) → p x ≡ true → list_all p xs ≡ true → list_all p (if b then x ∷ xs else xs) ≡ true
filter_step p q x xs true h k = and_from (p x) (list_all p xs) h k
filter_step p q x xs false h k = k

pub all-filter : {X : Type 0} (p q : X → Bool) (xs : List X) → list_all p xs ≡ true → list_all p (filter q xs) ≡ true
all-filter p q [] h = refl
all-filter p q (x ∷ xs) h =
    let both : (p x ≡ true) × (list_all p xs ≡ true) = and_parts (p x) (list_all p xs) h in
    filter_step p q x (filter q xs) (q x) both.0 (all-filter p q xs both.1)

find_step : {X : Type 0} (p : X → Bool) (x y : X) (o : Option X) (b : Bool) → p x ≡ true → (o ≡ Some y → p y ≡ true) → (if b then Some x else o) ≡ Some y → p y ≡ true
find_step p x y o true h f e = subst (λ z. p z ≡ true) (some-inj x y e) h
find_step p x y o false h f e = f e

pub all-find : {X : Type 0} (p q : X → Bool) (xs : List X) (y : X) → list_all p xs ≡ true → find q xs ≡ Some y → p y ≡ true
all-find p q [] y h e = absurd (none_some y e)
all-find p q (x ∷ xs) y h e =
    let both : (p x ≡ true) × (list_all p xs ≡ true) = and_parts (p x) (list_all p xs) h in
    find_step p x y (find q xs) (q x) both.0 (λ r. all-find p q xs y both.1 r) e

pub all-get : {X : Type 0} (p : X → Bool) (xs : List X) (k : ℕ) (x : X) → list_all p xs ≡ true → slice_get xs k ≡ Some x → p x ≡ true
all-get p [] k x h e = absurd (none_some x e)
all-get p (y ∷ ys) zero x h e = subst (λ z. p z ≡ true) (some-inj y x e) (and_parts (p y) (list_all p ys) h).0
all-get p (y ∷ ys) (suc k) x h e = all-get p ys k x (and_parts (p y) (list_all p ys) h).1 e

pub all-set : {X : Type 0} (p : X → Bool) (xs : List X) (k : ℕ) (x : X) → p x ≡ true → list_all p xs ≡ true → list_all p (slice_set xs k x) ≡ true
all-set p [] k x h e = refl
all-set p (y ∷ ys) zero x h e = and_from (p x) (list_all p ys) h (and_parts (p y) (list_all p ys) e).1
all-set p (y ∷ ys) (suc k) x h e =
    let both : (p y ≡ true) × (list_all p ys ≡ true) = and_parts (p y) (list_all p ys) e in
    and_from (p y) (list_all p (slice_set ys k x)) both.0 (all-set p ys k x h both.1)

pub all-from : {X : Type 0} (p : X → Bool) (xs : List X) → ((x : X) → Contains xs x → p x ≡ true) → list_all p xs ≡ true
all-from p [] f = refl
all-from p (x ∷ xs) f = and_from (p x) (list_all p xs) (f x (0, omega arith, refl)) (all-from p xs (λ y c. f y (suc c.0, omega (arith, c.1), c.2)))

pub all-one : {X : Type 0} (p : X → Bool) (xs : List X) (x : X) → Contains xs x → list_all p xs ≡ true → p x ≡ true
all-one p [] x c h = absurd (let lt = c.1 in omega arith)
all-one p (y ∷ ys) x (zero, lt, e) h = subst (λ z. p z ≡ true) e (and_parts (p y) (list_all p ys) h).0
all-one p (y ∷ ys) x (suc k, lt, e) h = all-one p ys x (k, omega arith, e) (and_parts (p y) (list_all p ys) h).1

pub all-flat_map : {X Y : Type 0} (p : Y → Bool) (f : X → List Y) (xs : List X) → ((x : X) → Contains xs x → list_all p (f x) ≡ true) → list_all p (flat_map f xs) ≡ true
all-flat_map p f [] g = refl
all-flat_map p f (x ∷ xs) g = all-append p (f x) (flat_map f xs) (g x (0, omega arith, refl)) (all-flat_map p f xs (λ y c. g y (suc c.0, omega (arith, c.1), c.2)))
