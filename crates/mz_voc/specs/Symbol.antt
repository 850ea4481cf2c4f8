-- What may be a symbol of a vocabulary, and its priority.
use Rattle.std.specs.Prelude.{ℕ, ◌+◌, ◌-◌, ◌*◌, Bool, false, not, ◌&&◌, ◌||◌, ◌==◌, nat_le, if◌then◌else◌, List, [], ◌∷◌, length, fold, Option, Some, None}
use Rattle.std.specs.List.{list_all}
use Rattle.mz_base.specs.Bytes.{is_digit}
use Rattle.mz_base.specs.Words.{is_reserved, is_special, is_built_in_symbol, is_numeral}
use Rattle.mz_base.specs.declared.symbol_kind.SymbolKind.{SymbolKind}
use Rattle.mz_base.specs.declared.symbol_kind.SymbolKind.TheVariants.{Structure, LeftBracket, RightBracket, Mode, Functor, Predicate, Selector, Attribute}

-- the kind that a letter of `GKLMORUV` stands for
unfoldable pub kind_of : ℕ → Option SymbolKind
kind_of b =
    if b == 71 then Some Structure else
    if b == 75 then Some LeftBracket else
    if b == 76 then Some RightBracket else
    if b == 77 then Some Mode else
    if b == 79 then Some Functor else
    if b == 82 then Some Predicate else
    if b == 85 then Some Selector else
    if b == 86 then Some Attribute else None

-- a printable byte that is no space
abbrev pub is_symbol_byte : ℕ → Bool
is_symbol_byte b = nat_le 33 b && nat_le b 126

abbrev pub begins_with_colon : List ℕ → Bool
begins_with_colon [] = false
begins_with_colon (b ∷ bs) = b == 58

-- `::` stands somewhere
abbrev pub has_double_colon : List ℕ → Bool
has_double_colon [] = false
has_double_colon (b ∷ bs) = (b == 58 && begins_with_colon bs) || has_double_colon bs

-- 1 to 32 printable bytes without `::`
abbrev pub is_symbol_form : List ℕ → Bool
is_symbol_form bs = nat_le 1 (length bs) && nat_le (length bs) 32 && list_all is_symbol_byte bs && not (has_double_colon bs)

-- a reserved word, a special symbol, a built-in symbol or a numeral
abbrev pub is_taken : List ℕ → Bool
is_taken bs = is_reserved bs || is_special bs || is_built_in_symbol bs || is_numeral bs

-- what may be a symbol of a vocabulary
unfoldable pub is_symbol : List ℕ → Bool
is_symbol bs = is_symbol_form bs && not (is_taken bs)

-- the number that digits write
abbrev pub number_of : List ℕ → ℕ
number_of bs = fold (λ n b. n * 10 + (b - 48)) 0 bs

-- one to three digits of at most 255
abbrev pub is_priority : List ℕ → Bool
is_priority bs = nat_le 1 (length bs) && nat_le (length bs) 3 && list_all is_digit bs && nat_le (number_of bs) 255

abbrev pub priority_of : List ℕ → Option ℕ
priority_of bs = if is_priority bs then Some (number_of bs) else None
