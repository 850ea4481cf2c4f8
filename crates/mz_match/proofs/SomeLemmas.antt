-- One of the members of a list.
use Rattle.std.proofs.Common.{◌≡◌, ◌<◌, ◌+◌, ◌⊎◌, inl, inr, ℕ, zero, suc, List, [], ◌∷◌, ◌++◌, map, length, take, get_or, refl, ap, ◌∙◌, true, eq-eqb, eqb-true, subst, sym, arith, append-nil, append_assoc}
use Rattle.std.specs.Prelude.{flat_map}
use Rattle.mz_match.specs.declared.row.Row.{Row}
use Rattle.mz_match.specs.Rows.{SomeOf, has_value}

pub some_map : {X : Type 0} (P Q : X → Type 0) (xs : List X) → ((x : X) → P x → Q x) → SomeOf P xs → SomeOf Q xs
some_map P Q [] f h = h
some_map P Q (x ∷ xs) f h = elim h [ inl a ↦ inl (f x a) | inr b ↦ inr (some_map P Q xs f b) ]

pub some_left : {X : Type 0} (P : X → Type 0) (xs ys : List X) → SomeOf P xs → SomeOf P (xs ++ ys)
some_left P [] ys h = absurd h
some_left P (x ∷ xs) ys h = elim h [ inl a ↦ inl a | inr b ↦ inr (some_left P xs ys b) ]

pub some_right : {X : Type 0} (P : X → Type 0) (xs ys : List X) → SomeOf P ys → SomeOf P (xs ++ ys)
some_right P [] ys h = h
some_right P (x ∷ xs) ys h = inr (some_right P xs ys h)

pub some_cases : {X : Type 0} (P : X → Type 0) (xs ys : List X) → SomeOf P (xs ++ ys) → SomeOf P xs ⊎ SomeOf P ys
some_cases P [] ys h = inr h
some_cases P (x ∷ xs) ys h = elim h [ inl a ↦ inl (inl a) | inr b ↦ elim (some_cases P xs ys b) [ inl c ↦ inl (inr c) | inr d ↦ inr d ] ]

pub into_flat : {X Y : Type 0} (P : Y → Type 0) (f : X → List Y) (xs : List X) → SomeOf (λ x. SomeOf P (f x)) xs → SomeOf P (flat_map f xs)
into_flat P f [] h = h
into_flat P f (x ∷ xs) h = elim h [ inl a ↦ some_left P (f x) (flat_map f xs) a | inr b ↦ some_right P (f x) (flat_map f xs) (into_flat P f xs b) ]

pub out_of_flat : {X Y : Type 0} (P : Y → Type 0) (f : X → List Y) (xs : List X) → SomeOf P (flat_map f xs) → SomeOf (λ x. SomeOf P (f x)) xs
out_of_flat P f [] h = h
out_of_flat P f (x ∷ xs) h = elim (some_cases P (f x) (flat_map f xs) h) [ inl a ↦ inl a | inr b ↦ inr (out_of_flat P f xs b) ]

pub into_map : {X Y : Type 0} (P : Y → Type 0) (f : X → Y) (xs : List X) → SomeOf (λ x. P (f x)) xs → SomeOf P (map f xs)
into_map P f [] h = h
into_map P f (x ∷ xs) h = elim h [ inl a ↦ inl a | inr b ↦ inr (into_map P f xs b) ]

pub out_of_map : {X Y : Type 0} (P : Y → Type 0) (f : X → Y) (xs : List X) → SomeOf P (map f xs) → SomeOf (λ x. P (f x)) xs
out_of_map P f [] h = h
out_of_map P f (x ∷ xs) h = elim h [ inl a ↦ inl a | inr b ↦ inr (out_of_map P f xs b) ]

-- a fact beside each can be taken out
pub pull : {X : Type 0} (A : Type 0) (P : X → Type 0) (xs : List X) → SomeOf (λ x. A × P x) xs → A × SomeOf P xs
pull A P [] h = absurd h
pull A P (x ∷ xs) h = elim h [ inl a ↦ (a.0, inl a.1) | inr b ↦ let r = pull A P xs b in (r.0, inr r.1) ]

-- a witness beside each can be taken out
pub witness : {X Y : Type 0} (P : X → Y → Type 0) (xs : List X) → SomeOf (λ x. (v : Y) × P x v) xs → (v : Y) × SomeOf (λ x. P x v) xs
witness P [] h = absurd h
witness P (x ∷ xs) h = elim h [ inl a ↦ (a.0, inl a.1) | inr b ↦ let r = witness P xs b in (r.0, inr r.1) ]

pub some_none : {X : Type 0} (xs : List X) → SomeOf (λ x. ⊥) xs → ⊥
some_none [] h = h
some_none (x ∷ xs) h = elim h [ inl a ↦ a | inr b ↦ some_none xs b ]

-- the class of a row beside each can be taken out
pub value_out : (T : ℕ → Type 0) (R : Row → Type 0) (rs : List Row) → SomeOf (λ r. T r.value × R r) rs → (v : ℕ) × (T v × SomeOf (λ r. (has_value v r ≡ true) × R r) rs)
value_out T R [] h = absurd h
value_out T R (r ∷ rs) h =
    elim h [
      | inl a ↦ (r.value, (a.0, inl (eq-eqb r.value r.value refl, a.1)))
      | inr b ↦ let x = value_out T R rs b in (x.0, (x.1.0, inr x.1.1))
    ]

pub value_in : (T : ℕ → Type 0) (R : Row → Type 0) (rs : List Row) (v : ℕ) → T v → SomeOf (λ r. (has_value v r ≡ true) × R r) rs → SomeOf (λ r. T r.value × R r) rs
value_in T R rs v t h =
    some_map (λ r. (has_value v r ≡ true) × R r) (λ r. T r.value × R r) rs (λ r c. (subst T (sym (eqb-true r.value v c.0)) t, c.1)) h

-- one turn of a loop that goes over a list
flat_take : {X Y : Type 0} (f : X → List Y) (xs : List X) (i : ℕ) (d : X) → i < length xs → flat_map f (take (suc i) xs) ≡ flat_map f (take i xs) ++ f (get_or xs i d)
flat_take f [] i d lt = absurd (omega arith)
flat_take f (x ∷ xs) zero d lt = append-nil (f x)
flat_take f (x ∷ xs) (suc i) d lt = ap (λ ys. f x ++ ys) (flat_take f xs i d (omega arith)) ∙ sym (append_assoc (f x) (flat_map f (take i xs)) (f (get_or xs i d)))

pub flat_next : {X Y : Type 0} (f : X → List Y) (xs : List X) (i : ℕ) (x : X) (out found new : List Y) → out ≡ flat_map f (take i xs) → i < length xs → x ≡ get_or xs i x → found ≡ f x → new ≡ out ++ found → new ≡ flat_map f (take (i + 1) xs)
flat_next f xs i x out found new h lt e q n =
    let s : i + 1 ≡ suc i = omega arith in
    n ∙ (λ j. h j ++ (q ∙ ap f e) j) ∙ sym (ap (λ k. flat_map f (take k xs)) s ∙ flat_take f xs i x lt)
