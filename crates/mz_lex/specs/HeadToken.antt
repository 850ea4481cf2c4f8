-- What a token is for an environment part.
use Rattle.std.specs.Prelude.{ℕ, ◌||◌, if◌then◌else◌, List, codes}
use Rattle.std.specs.Str.{bytes_eq}
use Rattle.mz_base.specs.Name.{is_name}
use Rattle.mz_base.specs.declared.token.Token.{Token}
use Rattle.mz_base.specs.declared.token.TokenKind.{TokenKind}
use Rattle.mz_base.specs.declared.token.TokenKind.TheVariants.{Reserved, Special, Identifier}
use Rattle.mz_base.specs.declared.head.DirectiveKind.TheVariants.{Vocabularies, Notations, Constructors, Registrations, Definitions, Theorems, Schemes, Requirements}
use Rattle.mz_lex.specs.declared.head_token.HeadToken.{HeadToken}
use Rattle.mz_lex.specs.declared.head_token.HeadToken.TheVariants.{Environ, Begin, Directive, Later, Name, Comma, Semicolon, Other}

-- a reserved word
abbrev pub of_word : List ℕ → HeadToken
of_word word =
    if bytes_eq word (codes "environ") then Environ else
    if bytes_eq word (codes "begin") then Begin else
    if bytes_eq word (codes "vocabularies") then Directive Vocabularies else
    if bytes_eq word (codes "notations") then Directive Notations else
    if bytes_eq word (codes "constructors") then Directive Constructors else
    if bytes_eq word (codes "registrations") then Directive Registrations else
    if bytes_eq word (codes "definitions") then Directive Definitions else
    if bytes_eq word (codes "theorems") then Directive Theorems else
    if bytes_eq word (codes "schemes") then Directive Schemes else
    if bytes_eq word (codes "requirements") then Directive Requirements else
    if bytes_eq word (codes "equalities") || bytes_eq word (codes "expansions") then Later else Other

-- a special symbol
abbrev pub of_special : List ℕ → HeadToken
of_special symbol = if bytes_eq symbol (codes ",") then Comma else if bytes_eq symbol (codes ";") then Semicolon else Other

-- an identifier
abbrev pub of_identifier : List ℕ → HeadToken
of_identifier word = if is_name word then Name else Other

abbrev pub head_token_with : TokenKind → List ℕ → HeadToken
head_token_with Reserved spelling = of_word spelling
head_token_with Special spelling = of_special spelling
head_token_with Identifier spelling = of_identifier spelling
head_token_with _ spelling = Other

unfoldable pub head_token_of : Token → HeadToken
head_token_of token = head_token_with token.kind token.spelling
