-- The index of a table of lexemes.
use Rattle.std.specs.Prelude.{◌≡◌, ℕ, ◌≤◌, true, List, length, Option, Some, None}
use Rattle.std.specs.List.{slice_get}
use Rattle.mz_voc.specs.declared.spelled.Spelled.{Spelled}
use Rattle.mz_voc.specs.Spelled.{value_of}
use Rattle.mz_lex.specs.declared.lexeme.Lexeme.{Lexeme}
use Rattle.mz_lex.specs.Tokens.{lexeme_of, is_lexeme}

abbrev pub lexeme_at : List Lexeme → Option ℕ → Option Lexeme
lexeme_at lexemes None = None
lexeme_at lexemes (Some position) = slice_get lexemes position

-- the position of the first of some lexemes with each spelling, in a list that has them
abbrev pub FindsFirst : List Lexeme → Spelled ℕ → List Lexeme → Type 0
FindsFirst lexemes positions some = (spelling : List ℕ) → lexeme_at lexemes (value_of positions spelling) ≡ lexeme_of some spelling

-- no lexeme has more bytes
abbrev pub NoneLonger : List Lexeme → ℕ → Type 0
NoneLonger lexemes most = (spelling : List ℕ) → is_lexeme lexemes spelling ≡ true → length spelling ≤ most

pub record IsIndexed (lexemes : List Lexeme) (positions : Spelled ℕ) (most : ℕ) : Type 0 where
  pub first : FindsFirst lexemes positions lexemes
  pub longest : NoneLonger lexemes most
