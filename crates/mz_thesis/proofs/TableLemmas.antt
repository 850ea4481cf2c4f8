-- Entries of a list that is seen through its shared entries.
use Rattle.std.proofs.Common.{◌≡◌, ◌<◌, ℕ, zero, suc, List, [], ◌∷◌, refl, sym, ap, ◌∙◌, arith, length, map, get_or}

length_mapped : {A B : Type 0} (f : A → B) (xs : List A) → length (map f xs) ≡ length xs
length_mapped f [] = refl
length_mapped f (x ∷ xs) = ap suc (length_mapped f xs)

told_length : {A B : Type 0} (f : A → B) (xs : List A) (ys : List B) → map f xs ≡ ys → length xs ≡ length ys
told_length f xs ys e = sym (length_mapped f xs) ∙ ap length e

pub told_count : {A B : Type 0} (f : A → B) (xs : List A) (ys : List B) (n : ℕ) → map f xs ≡ ys → n ≡ length xs → n ≡ length ys
told_count f xs ys n e same = same ∙ told_length f xs ys e

pub told_within : {A B : Type 0} (f : A → B) (xs : List A) (ys : List B) (i : ℕ) → map f xs ≡ ys → i < length ys → i < length xs
told_within f xs ys i e lt = let same : length xs ≡ length ys = told_length f xs ys e in omega (arith, same, lt)

entry_mapped : {A B : Type 0} (f : A → B) (xs : List A) (i : ℕ) (x : A) → i < length xs → x ≡ get_or xs i x → f x ≡ get_or (map f xs) i (f x)
entry_mapped f [] i x lt at = absurd (omega (arith, lt))
entry_mapped f (y ∷ ys) zero x lt at = ap f at
entry_mapped f (y ∷ ys) (suc i) x lt at = entry_mapped f ys i x (omega (arith, lt)) at

pub told_entry : {A B : Type 0} (f : A → B) (xs : List A) (ys : List B) (i : ℕ) (x : A) → map f xs ≡ ys → i < length ys → x ≡ get_or xs i x → f x ≡ get_or ys i (f x)
told_entry f xs ys i x e lt at = entry_mapped f xs i x (told_within f xs ys i e lt) at ∙ ap (λ zs. get_or zs i (f x)) e

pub ruleset table_rules = (told_count, told_within, told_entry)
