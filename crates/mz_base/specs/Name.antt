-- Names of articles and vocabularies, and their numbers.
use Rattle.std.specs.Prelude.{ℕ, ◌-◌, Bool, false, not, ◌&&◌, ◌||◌, ◌==◌, nat_le, List, [], ◌∷◌, ◌++◌, length, filter, replicate, codes}
use Rattle.std.specs.List.{list_all}
use Rattle.std.specs.Int.{w64, to_be_bytes, from_be_bytes}
use Rattle.mz_base.specs.Bytes.{is_letter, is_lower, is_digit}

-- a letter, a digit or `_`
abbrev pub is_name_byte : ℕ → Bool
is_name_byte b = is_letter b || is_digit b || b == 95

-- 1 to 8 bytes, each a letter, a digit or `_`, beginning with a letter
abbrev pub is_name : List ℕ → Bool
is_name [] = false
is_name (b ∷ bs) = is_letter b && nat_le (length bs) 7 && list_all is_name_byte bs

-- a name without lower-case letters
abbrev pub is_raised_name : List ℕ → Bool
is_raised_name bs = is_name bs && list_all (λ b. not (is_lower b)) bs

-- the bytes, filled with zeros to eight
abbrev pub filled : List ℕ → List ℕ
filled bs = bs ++ replicate (8 - length bs) 0

-- the number of a name: its bytes, filled with zeros to eight, most significant first
unfoldable pub number_of : List ℕ → ℕ
number_of bs = from_be_bytes w64 (filled bs)

-- the text of a number: its eight bytes, most significant first, without the zeros
unfoldable pub text_of : ℕ → List ℕ
text_of n = filter (λ b. not (b == 0)) (to_be_bytes w64 n)

-- the number of one of the three names that are built in
abbrev pub is_built_in : ℕ → Bool
is_built_in n = n == number_of (codes "HIDDEN") || n == number_of (codes "TARSKI_0") || n == number_of (codes "TARSKI_A")
