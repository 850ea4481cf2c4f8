-- Stretches of a list, and heads of runs.
use Rattle.std.proofs.Common.{◌≡◌, ◌≤◌, ◌<◌, ◌+◌, ℕ, zero, suc, List, [], ◌∷◌, ◌++◌, refl, ap, ◌∙◌, arith, length, take, Option, Some, None, slice_get}
use Rattle.mz_grouping.specs.Grouping.{Head, with_part, head_from}
use Rattle.mz_grouping.specs.Open.{between}
use Rattle.mz_grouping.specs.declared.grouping.Part.{Part}

abbrev first_or : Part → Option Part → Part
first_or p None = p
first_or p (Some q) = q

none_some : (p : Part) → None ≡ Some p → ⊥
none_some p e = cc

-- a stretch with one part more
pub between-last : (low high : ℕ) (parts : List Part) (p : Part) → low ≤ high → slice_get parts high ≡ Some p → between low (suc high) parts ≡ between low high parts ++ p ∷ []
between-last low high [] p le at = absurd (none_some p at)
between-last zero zero (x ∷ xs) p le at = ap (λ o. first_or p o ∷ []) at
between-last zero (suc high) (x ∷ xs) p le at = ap (λ ys. x ∷ ys) (between-last zero high xs p (omega arith) at)
between-last (suc low) zero (x ∷ xs) p le at = absurd (omega (arith, le))
between-last (suc low) (suc high) (x ∷ xs) p le at = between-last low high xs p (omega (arith, le)) at

-- a stretch with the part at a place
pub between-split : (low place high : ℕ) (parts : List Part) (p : Part) → low ≤ place → place < high → slice_get parts place ≡ Some p → between low high parts ≡ between low place parts ++ p ∷ between (suc place) high parts
between-split low place high [] p le lt at = absurd (none_some p at)
between-split low place zero (x ∷ xs) p le lt at = absurd (omega (arith, lt))
between-split zero zero (suc high) (x ∷ xs) p le lt at = ap (λ o. first_or p o ∷ take high xs) at
between-split zero (suc place) (suc high) (x ∷ xs) p le lt at = ap (λ ys. x ∷ ys) (between-split zero place high xs p (omega arith) (omega (arith, lt)) at)
between-split (suc low) zero (suc high) (x ∷ xs) p le lt at = absurd (omega (arith, le))
between-split (suc low) (suc place) (suc high) (x ∷ xs) p le lt at = between-split low place high xs p (omega (arith, le)) (omega (arith, lt)) at

-- how long a stretch is
pub between-length : (low high : ℕ) (parts : List Part) → low ≤ high → high ≤ length parts → low + length (between low high parts) ≡ high
between-length zero zero parts le lt = omega arith
between-length zero (suc high) [] le lt = absurd (omega (arith, lt))
between-length zero (suc high) (x ∷ xs) le lt =
    let r : 0 + length (between 0 high xs) ≡ high = between-length zero high xs (omega arith) (omega (arith, lt)) in
    omega (arith, r)
between-length (suc low) zero parts le lt = absurd (omega (arith, le))
between-length (suc low) (suc high) [] le lt = absurd (omega (arith, lt))
between-length (suc low) (suc high) (x ∷ xs) le lt =
    let r : low + length (between low high xs) ≡ high = between-length low high xs (omega (arith, le)) (omega (arith, lt)) in
    omega (arith, r)

-- an empty stretch
pub between-same : (k : ℕ) (parts : List Part) → between k k parts ≡ []
between-same zero parts = refl
between-same (suc k) [] = refl
between-same (suc k) (x ∷ xs) = between-same k xs

-- the whole list
pub between-whole : (parts : List Part) → between 0 (length parts) parts ≡ parts
between-whole [] = refl
between-whole (x ∷ xs) = ap (λ ys. x ∷ ys) (between-whole xs)

-- the head with a part more at the end
pub head_from-last : (best : Option Head) (place : ℕ) (ps : List Part) (p : Part) → head_from best place (ps ++ p ∷ []) ≡ with_part (head_from best place ps) (place + length ps) p
head_from-last best place [] p = ap (λ n. with_part best n p) (omega arith)
head_from-last best place (q ∷ ps) p =
    head_from-last (with_part best place q) (suc place) ps p ∙
    ap (λ n. with_part (head_from (with_part best place q) (suc place) ps) n p) (omega arith)
