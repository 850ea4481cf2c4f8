-- Elements at a place.
use Rattle.std.proofs.Common.{◌≡◌, ℕ, zero, suc, ◌+◌, ◌<◌, ◌⊎◌, List, [], ◌∷◌, ◌++◌, Option, Some, None, length, get_or, refl, sym, ap, ◌∙◌, arith, inl, inr}
use Rattle.std.specs.Prelude.{Contains, slice_get}
use Rattle.mz_corpus.proofs.ContainsLemmas.{Contains-head, Contains-tail}

pub slice_get_at : {X : Type 0} (xs : List X) (i : ℕ) (x : X) → i < length xs → x ≡ get_or xs i x → slice_get xs i ≡ Some x
slice_get_at [] i x lt e = absurd (let bad : ⊥ = omega arith in bad)
slice_get_at (y ∷ ys) zero x lt e = ap (λ z. Some z) (sym e)
slice_get_at (y ∷ ys) (suc i) x lt e = slice_get_at ys i x (omega arith) e

pub slice_get_within : {X : Type 0} (xs : List X) (i : ℕ) (x : X) → slice_get xs i ≡ Some x → i < length xs
slice_get_within [] i x e = cc
slice_get_within (y ∷ ys) zero x e = omega arith
slice_get_within (y ∷ ys) (suc i) x e = let lt = slice_get_within ys i x e in omega arith

pub slice_get_held : {X : Type 0} (xs : List X) (i : ℕ) (x : X) → slice_get xs i ≡ Some x → Contains xs x
slice_get_held [] i x e = cc
slice_get_held (y ∷ ys) zero x e = (zero, omega arith, some_same y x e)
  where
    some_same : {X : Type 0} (y x : X) → Some y ≡ Some x → y ≡ x
    some_same y x e = cc
slice_get_held (y ∷ ys) (suc i) x e = Contains-tail y ys x (slice_get_held ys i x e)

pub slice_get_push : {X : Type 0} (xs : List X) (y : X) (i : ℕ) (x : X) → slice_get (xs ++ y ∷ []) i ≡ Some x → (slice_get xs i ≡ Some x) ⊎ ((i ≡ length xs) × (y ≡ x))
slice_get_push [] y zero x e = inr (refl, some_same y x e)
  where
    some_same : {X : Type 0} (y x : X) → Some y ≡ Some x → y ≡ x
    some_same y x e = cc
slice_get_push [] y (suc i) x e = cc
slice_get_push (z ∷ zs) y zero x e = inl e
slice_get_push (z ∷ zs) y (suc i) x e = elim (slice_get_push zs y i x e) [ inl h ↦ inl h | inr h ↦ inr (ap suc h.0, h.1) ]
