-- Elements of lists.
use Rattle.std.proofs.Common.{◌≡◌, ◌<◌, ◌+◌, ℕ, zero, suc, List, [], ◌∷◌, ◌++◌, length, map, refl, ap, sym, ◌∙◌, subst, arith}
use Rattle.std.specs.Prelude.{slice_index_or, slice_get, Some, None, Contains, AllPairs, ◌≢◌}
use Rattle.std.proofs.lemmas.Option.{slice_get_within, get_or_from_slice_get}
use Rattle.mz_congruence.proofs.RootLemmas.{order, under, equal, over}

pub some_same : {X : Type 0} {a b : X} → Some a ≡ Some b → a ≡ b
some_same e = cc

pub none_some : {X : Type 0} {a : X} → None ≡ Some a → ⊥
none_some e = cc

pub get_left : {X : Type 0} (xs ys : List X) (i : ℕ) (x : X) → slice_get xs i ≡ Some x → slice_get (xs ++ ys) i ≡ Some x
get_left [] ys i x e = absurd (none_some e)
get_left (y ∷ xs) ys zero x e = e
get_left (y ∷ xs) ys (suc i) x e = get_left xs ys i x e

pub get_right : {X : Type 0} (xs ys : List X) (i k : ℕ) → i ≡ length xs + k → slice_get (xs ++ ys) i ≡ slice_get ys k
get_right [] ys i k e = let f : i ≡ k = omega (arith, e) in ap (slice_get ys) f
get_right (x ∷ xs) ys zero k e = absurd (omega (arith, e))
get_right (x ∷ xs) ys (suc i) k e = get_right xs ys i k (omega (arith, e))

pub get_map : {X Y : Type 0} (f : X → Y) (xs : List X) (i : ℕ) (x : X) → slice_get xs i ≡ Some x → slice_get (map f xs) i ≡ Some (f x)
get_map f [] i x e = absurd (none_some e)
get_map f (y ∷ xs) zero x e = ap (λ z. Some (f z)) (some_same e)
get_map f (y ∷ xs) (suc i) x e = get_map f xs i x e

pub get_unmap : {X Y : Type 0} (f : X → Y) (xs : List X) (i : ℕ) (y : Y) → slice_get (map f xs) i ≡ Some y → (x : X) × (slice_get xs i ≡ Some x) × (f x ≡ y)
get_unmap f [] i y e = absurd (none_some e)
get_unmap f (x ∷ xs) zero y e = (x, refl, some_same e)
get_unmap f (x ∷ xs) (suc i) y e = get_unmap f xs i y e

pub get_some : {X : Type 0} (xs : List X) (i : ℕ) → i < length xs → (x : X) × (slice_get xs i ≡ Some x)
get_some [] i lt = absurd (omega arith)
get_some (x ∷ xs) zero lt = (x, refl)
get_some (x ∷ xs) (suc i) lt = get_some xs i (omega arith)

pub get_at : {X : Type 0} (xs : List X) (k : ℕ) (x : X) → k < length xs → slice_index_or xs k x ≡ x → slice_get xs k ≡ Some x
get_at [] k x lt e = absurd (omega arith)
get_at (y ∷ xs) zero x lt e = ap Some e
get_at (y ∷ xs) (suc k) x lt e = get_at xs k x (omega arith) e

pub contains_get : {X : Type 0} (xs : List X) (x : X) → Contains xs x → (k : ℕ) × (k < length xs) × (slice_get xs k ≡ Some x)
contains_get xs x h = (h.0, h.1, get_at xs h.0 x h.1 h.2)

pub get_contains : {X : Type 0} (xs : List X) (k : ℕ) (x : X) → slice_get xs k ≡ Some x → Contains xs x
get_contains xs k x e = (k, slice_get_within xs k x e, get_or_from_slice_get xs k x x e)

pub contains_head : {X : Type 0} (x : X) (xs : List X) → Contains (x ∷ xs) x
contains_head x xs = (0, omega arith, refl)

pub contains_tail : {X : Type 0} (x y : X) (xs : List X) → Contains xs y → Contains (x ∷ xs) y
contains_tail x y xs c = (suc c.0, omega (arith, c.1), c.2)

pub not_contains_nil : {X : Type 0} (x : X) → Contains [] x → ⊥
not_contains_nil x c = omega (arith, c.1)

-- each element with its place meets P
abbrev pub AllOf : {X : Type 0} → (X → Type 0) → List X → Type 0
AllOf {X} P xs = (i : ℕ) (x : X) → slice_get xs i ≡ Some x → P x

pub all_append : {X : Type 0} (P : X → Type 0) (xs ys : List X) → AllOf P xs → AllOf P ys → AllOf P (xs ++ ys)
all_append P [] ys a b i x e = b i x e
all_append P (y ∷ xs) ys a b zero x e = a zero x e
all_append P (y ∷ xs) ys a b (suc i) x e = all_append P xs ys (λ j z h. a (suc j) z h) b i x e

pub all_map : {X Y : Type 0} (P : Y → Type 0) (f : X → Y) (xs : List X) → ((i : ℕ) (x : X) → slice_get xs i ≡ Some x → P (f x)) → AllOf P (map f xs)
all_map P f xs h i y e = let p = get_unmap f xs i y e in subst P p.2 (h i p.0 p.1)

pub all_one : {X : Type 0} (P : X → Type 0) (y : X) → P y → AllOf P (y ∷ [])
all_one P y h zero x e = subst P (some_same e) h
all_one P y h (suc i) x e = absurd (none_some e)

-- where no two elements are equal, an element has one place
pub place_unique : {X : Type 0} (xs : List X) → AllPairs (λ x y. x ≢ y) xs → (i j : ℕ) (x : X) → slice_get xs i ≡ Some x → slice_get xs j ≡ Some x → i ≡ j
place_unique xs d i j x p q =
    let lj : j < length xs = slice_get_within xs j x q in
    let li : i < length xs = slice_get_within xs i x p in
    let pi : slice_index_or xs i x ≡ x = get_or_from_slice_get xs i x x p in
    let pj : slice_index_or xs j x ≡ x = get_or_from_slice_get xs j x x q in
    elim (order i j) [
      | under h ↦ absurd (d i j x h lj (pi ∙ sym pj))
      | equal h ↦ h
      | over h ↦ absurd (d j i x h li (pj ∙ sym pi))
    ]
