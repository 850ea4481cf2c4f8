-- The lines of a vocabulary.
use Rattle.std.specs.Prelude.{ℕ, ◌-◌, Bool, not, ◌&&◌, ◌==◌, if◌then◌else◌, List, [], ◌∷◌, length, slice_index, take}

-- a byte after which a line ends
abbrev pub is_line_end : ℕ → Bool
is_line_end b = b == 10

abbrev pub is_space : ℕ → Bool
is_space b = b == 32

-- the lines with a byte put in front of the first
abbrev pub put_in_front : ℕ → List (List ℕ) → List (List ℕ)
put_in_front b [] = (b ∷ []) ∷ []
put_in_front b (l ∷ ls) = (b ∷ l) ∷ ls

-- the lines of a text, without the byte 10 that ends each but perhaps the last
unfoldable pub lines_of : List ℕ → List (List ℕ)
lines_of [] = []
lines_of (b ∷ bs) = if is_line_end b then [] ∷ lines_of bs else put_in_front b (lines_of bs)

-- the line without one byte 13 at its end
abbrev pub without_return : List ℕ → List ℕ
without_return line = if not (length line == 0) && slice_index line (length line - 1) == 13 then take (length line - 1) line else line
