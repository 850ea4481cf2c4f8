-- Hashes, and which items have a place by theirs.
use Rattle.std.proofs.Common.{◌≡◌, ℕ, Bool, true, false, List, [], ◌∷◌, ◌++◌, refl, sym as inverse, ap, ◌∙◌, inl, inr, Option, Some, None}
use Rattle.std.specs.Prelude.{slice_get, if◌then◌else◌, nat_eq, MatchOption}
use Rattle.std.proofs.lemmas.Option.{none-some}
use Rattle.mz_ground.specs.Hash.{hash_with, hash_with_all, place_of, AreHashed}
use Rattle.mz_ground.specs.declared.hash_places.HashPlaces.{HashPlaces}
use Rattle.std.proofs.lemmas.Bool.{eq-eqb}
use Rattle.mz_ground.proofs.ListLemmas.{get_push_cases}

pub hash_with_all-push : (hash : ℕ) (ns : List ℕ) (n : ℕ) → hash_with_all hash (ns ++ n ∷ []) ≡ hash_with (hash_with_all hash ns) n
hash_with_all-push hash [] n = refl
hash_with_all-push hash (m ∷ ns) n = hash_with_all-push (hash_with hash m) ns n

-- no items need no place
pub none_hashed : {A : Type 0} (hash_of : A → ℕ) (p : HashPlaces) → AreHashed hash_of [] p
none_hashed hash_of p = record { hashed = λ k item e q. none-some item e }

else_none : (b : Bool) (place : ℕ) (o : Option ℕ) → (if b then Some place else o) ≡ None → o ≡ None
else_none true place o e = absurd (none-some place (inverse e))
else_none false place o e = e

-- what has a place keeps one
given_place : (p q : HashPlaces) (hash place : ℕ) → ((other : ℕ) → place_of q other ≡ (if nat_eq hash other then Some place else place_of p other)) → (other : ℕ) → place_of q other ≡ None → place_of p other ≡ None
given_place p q hash place h other e = else_none (nat_eq hash other) place (place_of p other) (inverse (h other) ∙ e)

pub hashed_same : {A : Type 0} (hash_of : A → ℕ) (items : List A) (p q : HashPlaces) → AreHashed hash_of items p → ((other : ℕ) → place_of q other ≡ place_of p other) → AreHashed hash_of items q
hashed_same hash_of items p q a h = record { hashed = λ k item e n. a.hashed k item e (inverse (h (hash_of item)) ∙ n) }

pub hashed_more : {A : Type 0} (hash_of : A → ℕ) (items : List A) (p q : HashPlaces) (hash place : ℕ) → AreHashed hash_of items p → ((other : ℕ) → place_of q other ≡ (if nat_eq hash other then Some place else place_of p other)) → AreHashed hash_of items q
hashed_more hash_of items p q hash place a h = record { hashed = λ k item e n. a.hashed k item e (given_place p q hash place h (hash_of item) n) }

-- a hash that was given a place has one
has_place : (p q : HashPlaces) (hash place : ℕ) → ((other : ℕ) → place_of q other ≡ (if nat_eq hash other then Some place else place_of p other)) → place_of q hash ≡ None → ⊥
has_place p q hash place h n =
    let e : (if nat_eq hash hash then Some place else place_of p hash) ≡ Some place = ap (λ b. if b then Some place else place_of p hash) (eq-eqb hash hash refl) in
    none-some place (inverse n ∙ h hash ∙ e)

pub hashed_push : {A : Type 0} (hash_of : A → ℕ) (items : List A) (item : A) (p q : HashPlaces) (hash place : ℕ) → hash ≡ hash_of item → AreHashed hash_of items p → ((other : ℕ) → place_of q other ≡ (if nat_eq hash other then Some place else place_of p other)) → AreHashed hash_of (items ++ item ∷ []) q
hashed_push hash_of items item p q hash place is a h = record {
  hashed = λ k x e n. elim (get_push_cases items item k x e) [
    | inl g ↦ a.hashed k x g (given_place p q hash place h (hash_of x) n)
    | inr r ↦ has_place p q hash place h (ap (place_of q) (is ∙ ap hash_of r.1) ∙ n)
  ];
}

-- an item whose hash has no place is none of them
pub not_hashed : {A : Type 0} (hash_of : A → ℕ) (items : List A) (item : A) (p : HashPlaces) (hash : ℕ) → hash ≡ hash_of item → AreHashed hash_of items p → place_of p hash ≡ None → (k : ℕ) → slice_get items k ≡ Some item → ⊥
not_hashed hash_of items item p hash is a n k e = a.hashed k item e (ap (place_of p) (inverse is) ∙ n)

-- where a hash has no place, no item has the hash
pub no_candidate : {A : Type 0} (hash_of : A → ℕ) (items : List A) (p : HashPlaces) (hash : ℕ) (r : Option ℕ) → r ≡ place_of p hash → AreHashed hash_of items p → MatchOption r ((k : ℕ) (item : A) → slice_get items k ≡ Some item → hash_of item ≡ hash → ⊥) (λ place. Unit {0})
no_candidate hash_of items p hash None e a = λ k item at h. a.hashed k item at (ap (place_of p) h ∙ inverse e)
no_candidate hash_of items p hash (Some place) e a = tt

pub ruleset hashed_rules = (none_hashed, hashed_same, hashed_more, hashed_push, not_hashed, no_candidate)
