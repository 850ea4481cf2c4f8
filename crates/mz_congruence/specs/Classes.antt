-- Classes of numbers, as an array: each number leads to one that is not greater, at last to the root of its class.
use Rattle.std.specs.Prelude.{◌≡◌, ℕ, zero, suc, ◌+◌, ◌<◌, ◌≤◌, Bool, true, false, List, [], ◌∷◌, length, slice_index}
use Rattle.mz_congruence.specs.declared.graph.Graph.{Graph}
use Rattle.mz_congruence.specs.Congruence.{Equal}

-- where a number leads in a number of steps
abbrev pub after_steps : ℕ → List ℕ → ℕ → ℕ
after_steps zero c i = i
after_steps (suc n) c i = after_steps n c (slice_index c i)

-- where a number leads at last
abbrev pub root : List ℕ → ℕ → ℕ
root c i = after_steps i c i

-- no number leads to a greater one
unfoldable pub Descends : List ℕ → Type 0
Descends c = (i : ℕ) → slice_index c i ≤ i

-- each number leads to its root at once
unfoldable pub Flat : List ℕ → Type 0
Flat c = (i : ℕ) → slice_index c (slice_index c i) ≡ slice_index c i

abbrev pub total : List ℕ → ℕ
total [] = 0
total (x ∷ xs) = x + total xs

-- something was merged, or nothing was changed
abbrev pub Progress : Bool → List ℕ → List ℕ → Type 0
Progress true c d = total d < total c
Progress false c d = d ≡ c

-- the classes hold equal nodes only
pub record Sound (g : Graph) (c : List ℕ) : Type 0 where
  pub each : (i : ℕ) → i < length g.nodes → Equal g i (root c i)

-- the classes d, made of c, hold equal nodes only where p and q are equal; or p and q have one class already
abbrev pub United : Bool → List ℕ → ℕ → ℕ → List ℕ → Type 0
United true c p q d = (g : Graph) → length c ≡ length g.nodes → Sound g c → Equal g p q → Sound g d
United false c p q d = root c p ≡ root c q
