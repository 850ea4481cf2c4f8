-- Where faults and tokens stand.
use Rattle.std.specs.Prelude.{◌≡◌, ℕ, ◌≤◌, ◌⊎◌, List, [], ◌∷◌, length}
use Rattle.mz_base.specs.Place.{place_at}
use Rattle.mz_base.specs.declared.place.Place.{Place}
use Rattle.mz_base.specs.declared.token.Token.{Token}

-- the place is that of a byte of the text, or just after its last byte
abbrev pub IsPlaceIn : List ℕ → Place → Type 0
IsPlaceIn bytes place = (k : ℕ) × (k ≤ length bytes) × (place ≡ place_at bytes k)

-- a token stands there
abbrev pub IsPlaceOf : List Token → Place → Type 0
IsPlaceOf [] p = ⊥
IsPlaceOf (t ∷ ts) p = (t.place ≡ p) ⊎ IsPlaceOf ts p
