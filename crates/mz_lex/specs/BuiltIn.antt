-- The lexemes of every text.
use Rattle.std.specs.Prelude.{ℕ, List, ◌++◌, map}
use Rattle.mz_base.specs.Words.{reserved_words, special_symbols, built_in_symbols}
use Rattle.mz_base.specs.declared.token.TokenKind.{TokenKind}
use Rattle.mz_base.specs.declared.token.TokenKind.TheVariants.{Reserved, Special, Symbol}
use Rattle.mz_lex.specs.declared.lexeme.Lexeme.{Lexeme}

-- a lexeme without a priority
abbrev pub lexeme : TokenKind → List ℕ → Lexeme
lexeme kind spelling = record { spelling = spelling; kind = kind; priority = 0 }

-- the reserved words, the special symbols and the built-in symbols
unfoldable pub built_in_lexemes : List Lexeme
built_in_lexemes =
    map (lexeme Reserved) reserved_words ++ map (lexeme Special) special_symbols ++ map (λ s. lexeme (Symbol s.1) s.0) built_in_symbols
