-- What is known of the values of rows by their arguments.
use Rattle.std.specs.Prelude.{◌≡◌, ℕ, Bool, true, false, Option, None, Some, List, [], ◌∷◌, nat_eq, if◌then◌else◌}
use Rattle.std.specs.Map.{lookup}
use lib.Pointwise.{pointwise}
use Rattle.mz_match.specs.declared.row.Row.{Row}
use Rattle.mz_match.specs.declared.value.Value.{Value}
use Rattle.mz_match.specs.declared.value.Value.TheVariants.{Unknown, Nothing, Class}
use Rattle.mz_match.specs.declared.values.Values.{Values}

-- the two lists are one
abbrev pub is_list : List ℕ → List ℕ → Bool
is_list s t = pointwise nat_eq s t

abbrev pub or_nothing : Option Value → Value
or_nothing None = Nothing
or_nothing (Some k) = k

-- what a map says of arguments
abbrev pub value_at : Values → List ℕ → Value
value_at m args = or_nothing (lookup (λ k. is_list args k.items) m.map.entries)

-- the values of the rows with these arguments
abbrev pub values_of : List Row → List ℕ → List ℕ
values_of [] args = []
values_of (r ∷ rs) args = if is_list r.args.items args then r.value ∷ values_of rs args else values_of rs args

-- none is said of no value, and a class of this one alone
abbrev pub is_right : Value → List ℕ → Bool
is_right Unknown vs = true
is_right Nothing [] = true
is_right Nothing (v ∷ vs) = false
is_right (Class w) [] = false
is_right (Class w) (v ∷ []) = nat_eq v w
is_right (Class w) (v ∷ (u ∷ vs)) = false

-- what the map says of arguments is right of the rows
abbrev pub AreKnown : List Row → Values → Type 0
AreKnown rs m = (args : List ℕ) → is_right (value_at m args) (values_of rs args) ≡ true

-- what is known with one value more
abbrev pub with_value : Value → ℕ → Value
with_value Unknown v = Unknown
with_value Nothing v = Class v
with_value (Class w) v = Unknown

-- the class is known to be this one
abbrev pub is_class : Value → ℕ → Bool
is_class Unknown v = false
is_class Nothing v = false
is_class (Class w) v = nat_eq w v
