-- Bytes of ASCII text.
use Rattle.std.specs.Prelude.{ℕ, ◌+◌, ◌-◌, Bool, ◌&&◌, ◌||◌, nat_le, if◌then◌else◌, List, map}

-- `A` to `Z`
abbrev pub is_upper : ℕ → Bool
is_upper b = nat_le 65 b && nat_le b 90

-- `a` to `z`
abbrev pub is_lower : ℕ → Bool
is_lower b = nat_le 97 b && nat_le b 122

abbrev pub is_letter : ℕ → Bool
is_letter b = is_upper b || is_lower b

-- `0` to `9`
abbrev pub is_digit : ℕ → Bool
is_digit b = nat_le 48 b && nat_le b 57

-- a lower-case letter raised, every other byte as it is
abbrev pub raised_byte : ℕ → ℕ
raised_byte b = if is_lower b then b - 32 else b

-- an upper-case letter lowered, every other byte as it is
abbrev pub lowered_byte : ℕ → ℕ
lowered_byte b = if is_upper b then b + 32 else b

abbrev pub raised : List ℕ → List ℕ
raised bs = map raised_byte bs

abbrev pub lowered : List ℕ → List ℕ
lowered bs = map lowered_byte bs
