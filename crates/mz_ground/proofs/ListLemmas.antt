-- Members of lists and items at places.
use Rattle.std.proofs.Common.{◌≡◌, ◌<◌, ℕ, zero, suc, List, [], ◌∷◌, ◌++◌, length, map, get_or, refl, sym, ap, ◌∙◌, subst, arith, ◌⊎◌, inl, inr, Some}
use Rattle.std.specs.Prelude.{Contains, slice_get}
use Rattle.std.proofs.lemmas.List.{append-nil, append_assoc, length-append}
use Rattle.std.proofs.lemmas.Option.{slice_get_within, same_Some, none-some, slice_get-get_or, get_or_from_slice_get}
use Rattle.mz_ground.specs.Table.{Extends}

pub contains_none : {A : Type 0} (y : A) → Contains [] y → ⊥
contains_none y w = omega (arith, w.1)

pub contains_first : {A : Type 0} (x : A) (xs : List A) → Contains (x ∷ xs) x
contains_first x xs = (0, omega arith, refl)

pub contains_later : {A : Type 0} (x y : A) (xs : List A) → Contains xs y → Contains (x ∷ xs) y
contains_later x y xs w = (suc w.0, omega (arith, w.1), w.2)

contains_at : {A : Type 0} (x y : A) (xs : List A) (k : ℕ) → k < length (x ∷ xs) → get_or (x ∷ xs) k y ≡ y → (x ≡ y) ⊎ Contains xs y
contains_at x y xs zero lt e = inl e
contains_at x y xs (suc k) lt e = inr (k, omega arith, e)

pub contains_cases : {A : Type 0} (x y : A) (xs : List A) → Contains (x ∷ xs) y → (x ≡ y) ⊎ Contains xs y
contains_cases x y xs w = contains_at x y xs w.0 w.1 w.2

pub contains_one : {A : Type 0} (x y : A) → Contains (x ∷ []) y → x ≡ y
contains_one x y w = elim (contains_cases x y [] w) [ inl e ↦ e | inr v ↦ absurd (contains_none y v) ]

pub contains_get : {A : Type 0} (xs : List A) (k : ℕ) (x : A) → slice_get xs k ≡ Some x → Contains xs x
contains_get xs k x e = (k, slice_get_within xs k x e, get_or_from_slice_get xs k x x e)

pub get_contained : {A : Type 0} (xs : List A) (x : A) (w : Contains xs x) → slice_get xs w.0 ≡ Some x
get_contained xs x w = slice_get-get_or xs w.0 x w.1 ∙ ap Some w.2

pub contains_map : {A B : Type 0} (f : A → B) (xs : List A) (y : B) → Contains (map f xs) y → (x : A) × Contains xs x × (f x ≡ y)
contains_map f [] y w = absurd (contains_none y w)
contains_map f (x ∷ xs) y w =
    elim (contains_cases (f x) y (map f xs) w) [
      | inl e ↦ (x, contains_first x xs, e)
      | inr v ↦ let r = contains_map f xs y v in (r.0, contains_later x r.0 xs r.1, r.2)
    ]

pub map_contains : {A B : Type 0} (f : A → B) (xs : List A) (x : A) → Contains xs x → Contains (map f xs) (f x)
map_contains f [] x w = absurd (contains_none x w)
map_contains f (z ∷ zs) x w =
    elim (contains_cases z x zs w) [
      | inl e ↦ subst (λ y. Contains (map f (z ∷ zs)) (f y)) e (contains_first (f z) (map f zs))
      | inr v ↦ contains_later (f z) (f x) (map f zs) (map_contains f zs x v)
    ]

-- an item of a list with one more at its end
pub get_push_cases : {A : Type 0} (xs : List A) (x : A) (i : ℕ) (y : A) → slice_get (xs ++ x ∷ []) i ≡ Some y → (slice_get xs i ≡ Some y) ⊎ ((i ≡ length xs) × (x ≡ y))
get_push_cases [] x zero y g = inr (refl, same_Some x y g)
get_push_cases [] x (suc i) y g = absurd (none-some y g)
get_push_cases (z ∷ zs) x zero y g = inl g
get_push_cases (z ∷ zs) x (suc i) y g = elim (get_push_cases zs x i y g) [ inl a ↦ inl a | inr b ↦ inr (ap suc b.0, b.1) ]

pub extends_itself : {A : Type 0} (xs : List A) → Extends xs xs
extends_itself xs = ([], sym (append-nil xs))

pub extends_further : {A : Type 0} (xs ys zs : List A) → Extends xs ys → Extends ys zs → Extends xs zs
extends_further xs ys zs p q = (p.0 ++ q.0, q.1 ∙ ap (λ l. l ++ q.0) p.1 ∙ append_assoc xs p.0 q.0)

pub extends-length : {A : Type 0} (xs ys : List A) (k : ℕ) → Extends xs ys → k < length xs → k < length ys
extends-length xs ys k p lt = omega (arith, ap length p.1, length-append xs p.0)

-- items at places
pub get_left : {A : Type 0} (xs ys : List A) (k : ℕ) → k < length xs → slice_get (xs ++ ys) k ≡ slice_get xs k
get_left [] ys k lt = absurd (omega arith)
get_left (x ∷ xs) ys zero lt = refl
get_left (x ∷ xs) ys (suc k) lt = get_left xs ys k (omega arith)

pub get_extended : {A : Type 0} (xs ys : List A) (k : ℕ) → Extends xs ys → k < length xs → slice_get ys k ≡ slice_get xs k
get_extended xs ys k p lt = ap (λ z. slice_get z k) p.1 ∙ get_left xs p.0 k lt

pub get_some : {A : Type 0} (xs : List A) (k : ℕ) → k < length xs → (x : A) × (slice_get xs k ≡ Some x)
get_some [] k lt = absurd (omega arith)
get_some (x ∷ xs) zero lt = (x, refl)
get_some (x ∷ xs) (suc k) lt = get_some xs k (omega arith)

pub get_map : {A B : Type 0} (f : A → B) (xs : List A) (k : ℕ) (x : A) → slice_get xs k ≡ Some x → slice_get (map f xs) k ≡ Some (f x)
get_map f [] k x e = absurd (none-some x e)
get_map f (y ∷ ys) zero x e = ap Some (ap f (same_Some y x e))
get_map f (y ∷ ys) (suc k) x e = get_map f ys k x e
