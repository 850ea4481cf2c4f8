-- What stands at the start of a text.
use Rattle.std.specs.Prelude.{◌≡◌, ℕ, ◌≤◌, Bool, true, false, not, ◌&&◌, ◌||◌, ◌==◌, nat_eq, nat_lt, if◌then◌else◌, List, [], ◌∷◌, ◌++◌, length, Option, Some, None, find, codes}
use Rattle.std.specs.List.{list_all, list_any, starts_with}
use Rattle.std.specs.Str.{bytes_eq}
use Rattle.mz_base.specs.Bytes.{is_digit}
use Rattle.mz_base.specs.Words.{is_word_byte}
use Rattle.mz_base.specs.declared.place.Place.{Place}
use Rattle.mz_base.specs.declared.token.Token.{Token}
use Rattle.mz_base.specs.declared.token.TokenKind.{TokenKind}
use Rattle.mz_base.specs.declared.token.TokenKind.TheVariants.{Identifier, Numeral}
use Rattle.mz_lex.specs.declared.lexeme.Lexeme.{Lexeme}

-- a byte between tokens
abbrev pub is_separator : ℕ → Bool
is_separator b = b == 9 || b == 10 || b == 13 || b == 32

abbrev pub opens_comment : List ℕ → Bool
opens_comment text = starts_with nat_eq text (codes "::")

abbrev pub opens_pragma : List ℕ → Bool
opens_pragma text = starts_with nat_eq text (codes "::$C")

-- neither a separator nor a comment stands here
abbrev pub opens_token : List ℕ → Bool
opens_token [] = false
opens_token (b ∷ bs) = not (is_separator b) && not (opens_comment (b ∷ bs))

abbrev pub is_spelled : Lexeme → List ℕ → Bool
is_spelled lexeme spelling = bytes_eq lexeme.spelling spelling

-- the first lexeme with the spelling
abbrev pub lexeme_of : List Lexeme → List ℕ → Option Lexeme
lexeme_of lexemes spelling = find (λ l. is_spelled l spelling) lexemes

abbrev pub is_lexeme : List Lexeme → List ℕ → Bool
is_lexeme lexemes spelling = list_any (λ l. is_spelled l spelling) lexemes

-- what may be the spelling of a token: a lexeme's spelling or a word
abbrev pub is_spelling : List Lexeme → List ℕ → Bool
is_spelling lexemes spelling = nat_lt 0 (length spelling) && (is_lexeme lexemes spelling || list_all is_word_byte spelling)

abbrev pub word_kind : List ℕ → TokenKind
word_kind spelling = if list_all is_digit spelling then Numeral else Identifier

-- the kind and the priority of a token: those of the lexeme, and else those of a word
abbrev pub kind_with : Option Lexeme → List ℕ → TokenKind
kind_with (Some lexeme) spelling = lexeme.kind
kind_with None spelling = word_kind spelling

abbrev pub priority_with : Option Lexeme → ℕ
priority_with (Some lexeme) = lexeme.priority
priority_with None = 0

unfoldable pub token_of : List Lexeme → Place → List ℕ → Token
token_of lexemes place spelling = record {
  kind = kind_with (lexeme_of lexemes spelling) spelling;
  place = place;
  spelling = spelling;
  priority = priority_with (lexeme_of lexemes spelling);
}

-- the text begins with the token's spelling, and with no longer one
pub record IsToken (lexemes : List Lexeme) (text spelling rest : List ℕ) : Type 0 where
  pub opens : opens_token text ≡ true
  pub split : text ≡ spelling ++ rest
  pub spells : is_spelling lexemes spelling ≡ true
  pub longest : (other more : List ℕ) → text ≡ other ++ more → is_spelling lexemes other ≡ true → length other ≤ length spelling

-- no token begins here, where one should
pub record IsBadByte (lexemes : List Lexeme) (text : List ℕ) : Type 0 where
  pub opens : opens_token text ≡ true
  pub no_spelling : (other more : List ℕ) → text ≡ other ++ more → is_spelling lexemes other ≡ false

abbrev pub is_line_end : ℕ → Bool
is_line_end b = b == 10

-- the text ends here, or the line does
abbrev pub EndsLine : List ℕ → Type 0
EndsLine [] = Unit {0}
EndsLine (b ∷ bs) = is_line_end b ≡ true

-- a comment that is no pragma, up to the end of its line
pub record IsComment (text comment rest : List ℕ) : Type 0 where
  pub opens : opens_comment text ≡ true
  pub no_pragma : opens_pragma text ≡ false
  pub split : text ≡ comment ++ rest
  pub one_line : list_all (λ b. not (is_line_end b)) comment ≡ true
  pub ends : EndsLine rest
