-- Lists that functions are mapped over.
use Rattle.std.proofs.Common.{◌≡◌, List, [], ◌∷◌, map, refl, Bool, true, false}
use Rattle.std.specs.List.{list_all, list_any}
use Rattle.std.proofs.lemmas.Bool.{and_parts, and_from, or_parts, or_from}

pub map-agree : {X Y : Type 0} (f g : X → Y) → ((x : X) → f x ≡ g x) → (xs : List X) → map f xs ≡ map g xs
map-agree f g same [] = refl
map-agree f g same (x ∷ xs) = λ i. same x i ∷ map-agree f g same xs i

pub map-same : {X : Type 0} (f : X → X) → ((x : X) → f x ≡ x) → (xs : List X) → map f xs ≡ xs
map-same f same [] = refl
map-same f same (x ∷ xs) = λ i. same x i ∷ map-same f same xs i

pub map-map : {X Y Z : Type 0} (f : Y → Z) (g : X → Y) (h : X → Z) → ((x : X) → f (g x) ≡ h x) → (xs : List X) → map f (map g xs) ≡ map h xs
map-map f g h same [] = refl
map-map f g h same (x ∷ xs) = λ i. same x i ∷ map-map f g h same xs i

-- functions that agree where a test holds
pub map-agree_where : {X Y : Type 0} (p : X → Bool) (f g : X → Y) → ((x : X) → p x ≡ true → f x ≡ g x) → (xs : List X) → list_all p xs ≡ true → map f xs ≡ map g xs
map-agree_where p f g same [] h = refl
map-agree_where p f g same (x ∷ xs) h =
    let a : (p x ≡ true) × (list_all p xs ≡ true) = and_parts (p x) (list_all p xs) h in
    λ i. same x a.0 i ∷ map-agree_where p f g same xs a.1 i

pub map-same_where : {X : Type 0} (p : X → Bool) (f : X → X) → ((x : X) → p x ≡ true → f x ≡ x) → (xs : List X) → list_all p xs ≡ true → map f xs ≡ xs
map-same_where p f same [] h = refl
map-same_where p f same (x ∷ xs) h =
    let a : (p x ≡ true) × (list_all p xs ≡ true) = and_parts (p x) (list_all p xs) h in
    λ i. same x a.0 i ∷ map-same_where p f same xs a.1 i

pub list_all-map_where : {X Y : Type 0} (p : X → Bool) (q : Y → Bool) (f : X → Y) → ((x : X) → p x ≡ true → q (f x) ≡ true) → (xs : List X) → list_all p xs ≡ true → list_all q (map f xs) ≡ true
list_all-map_where p q f each [] h = refl
list_all-map_where p q f each (x ∷ xs) h =
    let a : (p x ≡ true) × (list_all p xs ≡ true) = and_parts (p x) (list_all p xs) h in
    and_from (q (f x)) (list_all q (map f xs)) (each x a.0) (list_all-map_where p q f each xs a.1)

pub list_all-where : {X : Type 0} (p q : X → Bool) → ((x : X) → p x ≡ true → q x ≡ true) → (xs : List X) → list_all p xs ≡ true → list_all q xs ≡ true
list_all-where p q each [] h = refl
list_all-where p q each (x ∷ xs) h =
    let a : (p x ≡ true) × (list_all p xs ≡ true) = and_parts (p x) (list_all p xs) h in
    and_from (q x) (list_all q xs) (each x a.0) (list_all-where p q each xs a.1)

pub list_any-map_none : {X Y : Type 0} (p : X → Bool) (q : Y → Bool) (f : X → Y) → ((x : X) → p x ≡ false → q (f x) ≡ false) → (xs : List X) → list_any p xs ≡ false → list_any q (map f xs) ≡ false
list_any-map_none p q f each [] h = refl
list_any-map_none p q f each (x ∷ xs) h =
    let a : (p x ≡ false) × (list_any p xs ≡ false) = or_parts (p x) (list_any p xs) h in
    or_from (q (f x)) (list_any q (map f xs)) (each x a.0) (list_any-map_none p q f each xs a.1)

pub list_any-map_never : {X Y : Type 0} (q : Y → Bool) (f : X → Y) → ((x : X) → q (f x) ≡ false) → (xs : List X) → list_any q (map f xs) ≡ false
list_any-map_never q f each [] = refl
list_any-map_never q f each (x ∷ xs) = or_from (q (f x)) (list_any q (map f xs)) (each x) (list_any-map_never q f each xs)
