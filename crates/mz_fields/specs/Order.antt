-- In which order an aggregate's pattern has the fields: each type behind those of the fields that it speaks of. In the types the object is
-- the constant y, and the fields' values are the constants behind it, in the order of the text.
use Rattle.std.specs.Prelude.{ℕ, zero, suc, ◌+◌, Bool, true, false, ◌&&◌, ◌||◌, not, nat_eq, if◌then◌else◌, List, [], ◌∷◌, ◌++◌, length, Option, Some, None}
use Rattle.std.specs.List.{list_any}
use Rattle.mz_core.specs.declared.soft_type.SoftType.{SoftType}
use Rattle.mz_context.specs.Gather.{occurs_in_type}

-- the field at a place is one of those that are taken, or the type doesn't speak of it
abbrev pub is_taken : List ℕ → ℕ → Bool
is_taken taken k = list_any (nat_eq k) taken

abbrev pub is_free_of : ℕ → List ℕ → SoftType → ℕ → Bool
is_free_of y taken ty k = is_taken taken k || not (occurs_in_type (y + 1 + k) ty)

-- the type speaks neither of the object nor, of so many fields, of one that isn't taken
abbrev pub is_ready : ℕ → ℕ → List ℕ → SoftType → Bool
is_ready y zero taken ty = not (occurs_in_type y ty)
is_ready y (suc k) taken ty = is_free_of y taken ty k && is_ready y k taken ty

-- the first place, of the types from a place on, that isn't taken and whose type is ready
abbrev pub first_ready : ℕ → ℕ → List ℕ → ℕ → List SoftType → Option ℕ
first_ready y count taken place [] = None
first_ready y count taken place (ty ∷ tys) = if not (is_taken taken place) && is_ready y count taken ty then Some place else first_ready y count taken (suc place) tys

-- it is taken, again and again, so many times at most
abbrev pub with_next : (List ℕ → List ℕ) → List ℕ → Option ℕ → List ℕ
with_next further taken None = taken
with_next further taken (Some place) = further (taken ++ place ∷ [])

abbrev pub order_from : ℕ → ℕ → List SoftType → List ℕ → List ℕ
order_from zero y tys taken = taken
order_from (suc k) y tys taken = with_next (order_from k y tys) taken (first_ready y (length tys) taken 0 tys)

-- the places of the fields in this order. Where the types speak of one another in a circle, some are missing
abbrev pub field_order : ℕ → List SoftType → List ℕ
field_order y tys = order_from (length tys) y tys []
