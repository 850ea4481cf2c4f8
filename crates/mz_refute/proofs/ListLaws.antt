-- Members of lists by their places.
use Rattle.std.proofs.Common.{◌≡◌, ◌<◌, ◌⊎◌, inl, inr, ℕ, zero, suc, List, [], ◌∷◌, ◌++◌, map, length, refl, arith, ap, sym, ◌∙◌, subst}
use Rattle.std.specs.Prelude.{slice_get, slice_index, slice_index_or, Some, Contains, AllPairs, ◌≢◌}
use Rattle.std.proofs.lemmas.Bool.Decides.{eqb_tells}
use Rattle.mz_match.specs.Rows.{SomeOf}

pub get_within : {X : Type 0} (xs : List X) (i : ℕ) (x : X) → slice_get xs i ≡ Some x → i < length xs
get_within [] i x h = cc
get_within (y ∷ xs) zero x h = omega arith
get_within (y ∷ xs) (suc i) x h = omega (arith, get_within xs i x h)

-- the member at a place
pub record MemberAt (X : Type 0) (xs : List X) (i : ℕ) : Type 0 where
  pub member : X
  pub at : slice_get xs i ≡ Some member

pub member_at : {X : Type 0} (xs : List X) (i : ℕ) → i < length xs → MemberAt X xs i
member_at [] i h = absurd (omega arith)
member_at (x ∷ xs) zero h = record { member = x; at = refl }
member_at (x ∷ xs) (suc i) h = let m = member_at xs i (omega arith) in record { member = m.member; at = m.at }

pub get_left : {X : Type 0} (xs ys : List X) (i : ℕ) (x : X) → slice_get xs i ≡ Some x → slice_get (xs ++ ys) i ≡ Some x
get_left [] ys i x h = cc
get_left (y ∷ xs) ys zero x h = h
get_left (y ∷ xs) ys (suc i) x h = get_left xs ys i x h

pub get_end : {X : Type 0} (xs : List X) (x : X) → slice_get (xs ++ x ∷ []) (length xs) ≡ Some x
get_end [] x = refl
get_end (y ∷ xs) x = get_end xs x

some_injective : {X : Type 0} (x y : X) → Some x ≡ Some y → x ≡ y
some_injective x y e = cc

pub get_once : {X : Type 0} (xs : List X) (i : ℕ) (x y : X) → slice_get xs i ≡ Some x → slice_get xs i ≡ Some y → x ≡ y
get_once xs i x y h k = some_injective x y (sym h ∙ k)

pub get_index : (xs : List ℕ) (i x : ℕ) → slice_get xs i ≡ Some x → slice_index xs i ≡ x
get_index [] i x h = cc
get_index (y ∷ xs) zero x h = some_injective y x h
get_index (y ∷ xs) (suc i) x h = get_index xs i x h

pub index_get : (xs : List ℕ) (i : ℕ) → i < length xs → slice_get xs i ≡ Some (slice_index xs i)
index_get [] i h = absurd (omega arith)
index_get (y ∷ xs) zero h = refl
index_get (y ∷ xs) (suc i) h = index_get xs i (omega arith)

pub get_or_get : {X : Type 0} (xs : List X) (i : ℕ) (x d : X) → slice_get xs i ≡ Some x → slice_index_or xs i d ≡ x
get_or_get [] i x d h = cc
get_or_get (y ∷ xs) zero x d h = some_injective y x h
get_or_get (y ∷ xs) (suc i) x d h = get_or_get xs i x d h

pub get_member : {X : Type 0} (xs : List X) (i : ℕ) (x : X) → slice_get xs i ≡ Some x → Contains xs x
get_member xs i x h = (i, get_within xs i x h, get_or_get xs i x x h)

get_at_or : {X : Type 0} (xs : List X) (i : ℕ) (x : X) → i < length xs → slice_index_or xs i x ≡ x → slice_get xs i ≡ Some x
get_at_or [] i x h e = absurd (omega arith)
get_at_or (y ∷ xs) zero x h e = ap (λ z. Some z) e
get_at_or (y ∷ xs) (suc i) x h e = get_at_or xs i x (omega arith) e

pub member_get : {X : Type 0} (xs : List X) (x : X) (m : Contains xs x) → slice_get xs m.0 ≡ Some x
member_get xs x m = get_at_or xs m.0 x m.1 m.2

pub get_map : {X Y : Type 0} (f : X → Y) (xs : List X) (i : ℕ) (x : X) → slice_get xs i ≡ Some x → slice_get (map f xs) i ≡ Some (f x)
get_map f [] i x h = cc
get_map f (y ∷ xs) zero x h = ap (λ z. Some (f z)) (some_injective y x h)
get_map f (y ∷ xs) (suc i) x h = get_map f xs i x h

-- what a member of the image comes from
pub record ComesFrom (X Y : Type 0) (f : X → Y) (xs : List X) (i : ℕ) (y : Y) : Type 0 where
  pub member : X
  pub at : slice_get xs i ≡ Some member
  pub is : f member ≡ y

pub map_get : {X Y : Type 0} (f : X → Y) (xs : List X) (i : ℕ) (y : Y) → slice_get (map f xs) i ≡ Some y → ComesFrom X Y f xs i y
map_get f [] i y h = cc
map_get f (x ∷ xs) zero y h = record { member = x; at = refl; is = some_injective (f x) y h }
map_get f (x ∷ xs) (suc i) y h = let m = map_get f xs i y h in record { member = m.member; at = m.at; is = m.is }

pub map_same : {X Y Z : Type 0} (f : X → Z) (h : Y → Z) (k : X → Y) (xs : List X) → ((x : X) → Contains xs x → f x ≡ h (k x)) → map f xs ≡ map h (map k xs)
map_same f h k [] e = refl
map_same f h k (x ∷ xs) e = λ i. e x (zero, omega arith, refl) i ∷ map_same f h k xs (λ y m. e y (suc m.0, omega (arith, m.1), m.2)) i

pub map_equal : {X Y : Type 0} (f h : X → Y) (xs : List X) → ((x : X) → Contains xs x → f x ≡ h x) → map f xs ≡ map h xs
map_equal f h [] e = refl
map_equal f h (x ∷ xs) e = λ i. e x (zero, omega arith, refl) i ∷ map_equal f h xs (λ y m. e y (suc m.0, omega (arith, m.1), m.2)) i

-- distinct members
pub distinct_places : {X : Type 0} (xs : List X) (i j : ℕ) (x : X) → AllPairs (λ (y z : X). y ≢ z) xs → slice_get xs i ≡ Some x → slice_get xs j ≡ Some x → i < j → ⊥
distinct_places xs i j x h a b lt = h i j x lt (get_within xs j x b) (get_or_get xs i x x a ∙ sym (get_or_get xs j x x b))

pub distinct_rest : {X : Type 0} (x : X) (xs : List X) → AllPairs (λ (y z : X). y ≢ z) (x ∷ xs) → AllPairs (λ (y z : X). y ≢ z) xs
distinct_rest x xs h i j d lt le = h (suc i) (suc j) d (omega arith) (omega arith)

no_place : (w v : ℕ) (vs : List ℕ) → (w ≡ v → ⊥) → ((k : ℕ) → slice_get vs k ≡ Some v → ⊥) → (k : ℕ) → slice_get (w ∷ vs) k ≡ Some v → ⊥
no_place w v vs a b zero h = a (some_injective w v h)
no_place w v vs a b (suc k) h = b k h

-- a place of a number, or none
pub find_place : (vs : List ℕ) (v : ℕ) → ((k : ℕ) × (slice_get vs k ≡ Some v)) ⊎ ((k : ℕ) → slice_get vs k ≡ Some v → ⊥)
find_place [] v = inr (λ k h. cc)
find_place (w ∷ vs) v =
    elim (eqb_tells w v) [
      | inl a ↦ inl (zero, ap (λ z. Some z) a.1)
      | inr a ↦ elim (find_place vs v) [
        | inl b ↦ inl (suc b.0, b.1)
        | inr b ↦ inr (no_place w v vs a.1 b)
      ]
    ]

-- some member by its place
pub some_get : {X : Type 0} (P : X → Type 0) (xs : List X) (i : ℕ) (x : X) → slice_get xs i ≡ Some x → P x → SomeOf P xs
some_get P [] i x h p = cc
some_get P (y ∷ xs) zero x h p = inl (subst P (sym (some_injective y x h)) p)
some_get P (y ∷ xs) (suc i) x h p = inr (some_get P xs i x h p)

pub get_any : {X : Type 0} (xs : List X) (i : ℕ) (d : X) → i < length xs → slice_get xs i ≡ Some (slice_index_or xs i d)
get_any [] i d h = absurd (omega arith)
get_any (x ∷ xs) zero d h = refl
get_any (x ∷ xs) (suc i) d h = get_any xs i d (omega arith)
