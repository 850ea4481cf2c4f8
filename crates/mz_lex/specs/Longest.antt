-- The longest lexeme at the start of a text.
use Rattle.std.specs.Prelude.{◌≡◌, ℕ, ◌<◌, ◌≤◌, true, List, ◌++◌, length, take, Some}
use Rattle.mz_lex.specs.declared.lexeme.Lexeme.{Lexeme}
use Rattle.mz_lex.specs.declared.lexeme.Longest.{Longest}
use Rattle.mz_lex.specs.Tokens.{lexeme_of, is_lexeme}

-- the longest lexeme with which the text begins, the first of several; length 0 where there is none
pub record IsLongestLexeme (lexemes : List Lexeme) (text : List ℕ) (best : Longest) : Type 0 where
  pub within : best.length ≤ length text
  pub held : 0 < best.length → (l : Lexeme) × (lexeme_of lexemes (take best.length text) ≡ Some l) × (l.kind ≡ best.kind) × (l.priority ≡ best.priority)
  pub longest : (other more : List ℕ) → text ≡ other ++ more → is_lexeme lexemes other ≡ true → length other ≤ best.length
