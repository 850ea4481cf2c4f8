-- Lists of numbers.
use Rattle.std.specs.Prelude.{ℕ, zero, suc, Bool, List, [], ◌∷◌, ◌++◌, Option, None, Some, slice_get, if◌then◌else◌}

abbrev pub first_of : List ℕ → Option ℕ
first_of [] = None
first_of (x ∷ xs) = Some x

abbrev pub list_or_none : Option (List ℕ) → List ℕ
list_or_none None = []
list_or_none (Some xs) = xs

-- the list at a place, and the empty one where there is none
abbrev pub list_at : List (List ℕ) → ℕ → List ℕ
list_at xss place = list_or_none (slice_get xss place)

-- the numbers below n of which p is true, ascending
abbrev pub numbers_where : (ℕ → Bool) → ℕ → List ℕ
numbers_where p zero = []
numbers_where p (suc n) = numbers_where p n ++ (if p n then n ∷ [] else [])
