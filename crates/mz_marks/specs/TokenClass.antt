-- What a token is to the marks of commas.
use Rattle.std.specs.Prelude.{Bool, List, ℕ, ◌||◌, codes, if◌then◌else◌}
use Rattle.std.specs.Str.{bytes_eq}
use Rattle.mz_base.specs.declared.symbol_kind.SymbolKind.{SymbolKind}
use Rattle.mz_base.specs.declared.symbol_kind.SymbolKind.TheVariants as symbol
use Rattle.mz_base.specs.declared.token.TokenKind.{TokenKind}
use Rattle.mz_base.specs.declared.token.TokenKind.TheVariants as kind
use Rattle.mz_base.specs.declared.token.Token.{Token}
use Rattle.mz_marks.specs.declared.token_class.TokenClass.{TokenClass}
use Rattle.mz_marks.specs.declared.token_class.TokenClass.TheVariants.{Identifier, Comma, Open, Close, Bracket, Being, Arrow, For, Reserve, Semicolon, Structure, Aggregate, Term, Other}

-- functor symbols and left brackets begin a term, a symbol of a structure does so in places
abbrev pub symbol_class : SymbolKind → TokenClass
symbol_class symbol.Structure = Structure
symbol_class symbol.Functor = Term
symbol_class symbol.LeftBracket = Term
symbol_class _ = Other

abbrev pub reserved_class : List ℕ → TokenClass
reserved_class s =
    (if bytes_eq s (codes "be") || bytes_eq s (codes "being") then Being else
    (if bytes_eq s (codes "for") then For else
    (if bytes_eq s (codes "reserve") then Reserve else
    (if bytes_eq s (codes "it") || bytes_eq s (codes "the") then Term else Other))))

abbrev pub is_argument : List ℕ → Bool
is_argument s =
    bytes_eq s (codes "$1") || bytes_eq s (codes "$2") || bytes_eq s (codes "$3") || bytes_eq s (codes "$4") || bytes_eq s (codes "$5") ||
    bytes_eq s (codes "$6") || bytes_eq s (codes "$7") || bytes_eq s (codes "$8") || bytes_eq s (codes "$9") || bytes_eq s (codes "$10")

abbrev pub special_class : List ℕ → TokenClass
special_class s =
    (if bytes_eq s (codes ",") then Comma else
    (if bytes_eq s (codes "(") then Open else
    (if bytes_eq s (codes ")") then Close else
    (if bytes_eq s (codes "[") then Bracket else
    (if bytes_eq s (codes "->") then Arrow else
    (if bytes_eq s (codes ";") then Semicolon else
    (if bytes_eq s (codes "(#") then Aggregate else
    (if bytes_eq s (codes "{") || is_argument s then Term else Other))))))))

abbrev pub class_with : TokenKind → List ℕ → TokenClass
class_with kind.Reserved s = reserved_class s
class_with kind.Special s = special_class s
class_with (kind.Symbol k) s = symbol_class k
class_with kind.Identifier s = Identifier
class_with kind.Numeral s = Other

abbrev pub class_of : Token → TokenClass
class_of t = class_with t.kind t.spelling
