-- Elements of lists.
use Rattle.std.proofs.Common.{◌≡◌, ℕ, zero, suc, ◌<◌, ◌⊎◌, List, [], ◌∷◌, ◌++◌, length, get_or, refl, arith, inl, inr}
use Rattle.std.specs.Prelude.{Contains}

pub Contains-head : {X : Type 0} (x : X) (xs : List X) → Contains (x ∷ xs) x
Contains-head x xs = (zero, omega arith, refl)

pub Contains-tail : {X : Type 0} (x : X) (xs : List X) (y : X) → Contains xs y → Contains (x ∷ xs) y
Contains-tail x xs y h = (suc h.0, (let lt = h.1 in omega arith), h.2)

no_place : (k : ℕ) → k < 0 → ⊥
no_place k lt = omega arith

pub Contains-none : {X : Type 0} (y : X) → Contains [] y → ⊥
Contains-none y h = no_place h.0 h.1

at_place : {X : Type 0} (x : X) (xs : List X) (y : X) (k : ℕ) → k < length (x ∷ xs) → get_or (x ∷ xs) k y ≡ y → (x ≡ y) ⊎ Contains xs y
at_place x xs y zero lt e = inl e
at_place x xs y (suc k) lt e = inr (k, omega arith, e)

pub Contains-cases : {X : Type 0} (x : X) (xs : List X) (y : X) → Contains (x ∷ xs) y → (x ≡ y) ⊎ Contains xs y
Contains-cases x xs y h = at_place x xs y h.0 h.1 h.2
