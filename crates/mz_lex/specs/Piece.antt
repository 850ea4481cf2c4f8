-- What stands at the start of a text, as the code finds it.
use Rattle.std.specs.Prelude.{◌≡◌, ℕ, ◌<◌, ◌≤◌, true, List, [], ◌∷◌, ◌++◌, length, take, drop}
use Rattle.std.specs.List.{position_or_len, prefix_len}
use Rattle.mz_base.specs.Words.{is_word_byte}
use Rattle.mz_lex.specs.declared.lexeme.Lexeme.{Lexeme}
use Rattle.mz_lex.specs.declared.lexeme.Longest.{Longest}
use Rattle.mz_lex.specs.declared.piece.Piece.{Piece}
use Rattle.mz_lex.specs.declared.piece.Piece.TheVariants.{Separator, Comment, Pragma, Token, BadByte}
use Rattle.mz_lex.specs.Tokens.{is_separator, opens_pragma, is_line_end, is_spelling, lexeme_of, kind_with, priority_with, IsToken, IsBadByte, IsComment}

-- how many bytes stand before the end of the line
abbrev pub comment_len : List ℕ → ℕ
comment_len bytes = position_or_len is_line_end bytes

-- how many bytes at the front are in the word there
abbrev pub word_len : List ℕ → ℕ
word_len bytes = prefix_len is_word_byte bytes

-- the longest spelling of a token with which the text begins, with its kind and priority; length 0 where there is none
pub record IsLongestToken (lexemes : List Lexeme) (text : List ℕ) (best : Longest) : Type 0 where
  pub within : best.length ≤ length text
  pub spells : 0 < best.length → is_spelling lexemes (take best.length text) ≡ true
  pub kind : 0 < best.length → best.kind ≡ kind_with (lexeme_of lexemes (take best.length text)) (take best.length text)
  pub priority : 0 < best.length → best.priority ≡ priority_with (lexeme_of lexemes (take best.length text))
  pub longest : (other more : List ℕ) → text ≡ other ++ more → is_spelling lexemes other ≡ true → length other ≤ best.length

-- a token of so many bytes
pub record IsTokenPiece (lexemes : List Lexeme) (text : List ℕ) (best : Longest) : Type 0 where
  pub token : IsToken lexemes text (take best.length text) (drop best.length text)
  pub some : 0 < best.length
  pub within : best.length ≤ length text
  pub kind : best.kind ≡ kind_with (lexeme_of lexemes (take best.length text)) (take best.length text)
  pub priority : best.priority ≡ priority_with (lexeme_of lexemes (take best.length text))

-- a comment of so many bytes
pub record IsCommentPiece (text : List ℕ) (n : ℕ) : Type 0 where
  pub comment : IsComment text (take n text) (drop n text)
  pub some : 0 < n
  pub within : n ≤ length text

abbrev pub BeginsWithSeparator : List ℕ → Type 0
BeginsWithSeparator [] = ⊥
BeginsWithSeparator (b ∷ bs) = is_separator b ≡ true

-- what stands at the start of a text
abbrev pub IsPiece : List Lexeme → List ℕ → Piece → Type 0
IsPiece lexemes text Separator = BeginsWithSeparator text
IsPiece lexemes text (Comment n) = IsCommentPiece text n
IsPiece lexemes text Pragma = opens_pragma text ≡ true
IsPiece lexemes text (Token best) = IsTokenPiece lexemes text best
IsPiece lexemes text BadByte = IsBadByte lexemes text
