-- What a token with its mark is to a parser of expressions.
use Rattle.std.specs.Prelude.{ℕ, ◌==◌, List, codes, if◌then◌else◌}
use Rattle.std.specs.Str.{bytes_eq}
use Rattle.mz_base.specs.declared.symbol_kind.SymbolKind.{SymbolKind}
use Rattle.mz_base.specs.declared.symbol_kind.SymbolKind.TheVariants as symbols
use Rattle.mz_base.specs.declared.token.TokenKind.{TokenKind}
use Rattle.mz_base.specs.declared.token.TokenKind.TheVariants as kinds
use Rattle.mz_base.specs.declared.token.Mark.{Mark}
use Rattle.mz_base.specs.declared.token.Mark.TheVariants as marks
use Rattle.mz_base.specs.declared.token.MarkedToken.{MarkedToken}
use Rattle.mz_pterm.specs.declared.sign.Sign.{Sign}
use Rattle.mz_pterm.specs.declared.sign.Sign.TheVariants as signs

-- the words of formulas
unfoldable pub formula_sign : List ℕ → Sign
formula_sign s =
    (if bytes_eq s (codes "for") then signs.For else
    (if bytes_eq s (codes "ex") then signs.Ex else
    (if bytes_eq s (codes "holds") then signs.Holds else
    (if bytes_eq s (codes "st") then signs.St else
    (if bytes_eq s (codes "not") then signs.Not else
    (if bytes_eq s (codes "contradiction") then signs.Contradiction else
    (if bytes_eq s (codes "thesis") then signs.Thesis else
    (if bytes_eq s (codes "is") then signs.Is else
    (if bytes_eq s (codes "or") then signs.Or else
    (if bytes_eq s (codes "implies") then signs.Implies else
    (if bytes_eq s (codes "iff") then signs.Iff else signs.Other)))))))))))

unfoldable pub reserved_sign : List ℕ → Sign
reserved_sign s =
    (if bytes_eq s (codes "it") then signs.It else
    (if bytes_eq s (codes "the") then signs.The else
    (if bytes_eq s (codes "of") then signs.Of else
    (if bytes_eq s (codes "over") then signs.Over else
    (if bytes_eq s (codes "non") then signs.Non else
    (if bytes_eq s (codes "be") then signs.Be else
    (if bytes_eq s (codes "being") then signs.Being else
    (if bytes_eq s (codes "set") then signs.Mode else formula_sign s))))))))

unfoldable pub argument_sign : List ℕ → Sign
argument_sign s =
    (if bytes_eq s (codes "$1") then signs.Argument 1 else
    (if bytes_eq s (codes "$2") then signs.Argument 2 else
    (if bytes_eq s (codes "$3") then signs.Argument 3 else
    (if bytes_eq s (codes "$4") then signs.Argument 4 else
    (if bytes_eq s (codes "$5") then signs.Argument 5 else
    (if bytes_eq s (codes "$6") then signs.Argument 6 else
    (if bytes_eq s (codes "$7") then signs.Argument 7 else
    (if bytes_eq s (codes "$8") then signs.Argument 8 else
    (if bytes_eq s (codes "$9") then signs.Argument 9 else
    (if bytes_eq s (codes "$10") then signs.Argument 10 else signs.Other))))))))))

unfoldable pub special_sign : List ℕ → Sign
special_sign s =
    (if bytes_eq s (codes "(") then signs.Open else
    (if bytes_eq s (codes ")") then signs.Close else
    (if bytes_eq s (codes "(#") then signs.OpenAggregate else
    (if bytes_eq s (codes "#)") then signs.CloseAggregate else
    (if bytes_eq s (codes "{") then signs.OpenBrace else
    (if bytes_eq s (codes "}") then signs.CloseBrace else
    (if bytes_eq s (codes "[") then signs.OpenSquare else
    (if bytes_eq s (codes "]") then signs.CloseSquare else
    (if bytes_eq s (codes "&") then signs.And else argument_sign s)))))))))

-- `set` is reserved
unfoldable pub symbol_sign : SymbolKind → List ℕ → Sign
symbol_sign symbols.Structure s = signs.Structure
symbol_sign symbols.LeftBracket s = signs.LeftBracket
symbol_sign symbols.RightBracket s = signs.RightBracket
symbol_sign symbols.Mode s = (if bytes_eq s (codes "set") then signs.Other else signs.Mode)
symbol_sign symbols.Functor s = signs.Functor
symbol_sign symbols.Predicate s = signs.Predicate
symbol_sign symbols.Selector s = signs.Selector
symbol_sign symbols.Attribute s = signs.Attribute

-- a token without a mark
unfoldable pub plain_sign : TokenKind → List ℕ → Sign
plain_sign kinds.Reserved s = reserved_sign s
plain_sign kinds.Special s = special_sign s
plain_sign (kinds.Symbol k) s = symbol_sign k s
plain_sign kinds.Identifier s = signs.Identifier
plain_sign kinds.Numeral s = signs.Other

-- a comma
unfoldable pub comma_sign : Sign → TokenKind → List ℕ → Sign
comma_sign r kinds.Special s = (if bytes_eq s (codes ",") then r else signs.Other)
comma_sign r _ s = signs.Other

abbrev pub unranked_sign : Mark → TokenKind → List ℕ → Sign
unranked_sign marks.NotComma k s = plain_sign k s
unranked_sign marks.List k s = comma_sign signs.ListComma k s
unranked_sign marks.Dividing k s = comma_sign signs.DividingComma k s

-- no token but a functor symbol has a priority
abbrev pub ranked_sign : Mark → TokenKind → Sign
ranked_sign marks.NotComma (kinds.Symbol symbols.Functor) = signs.Functor
ranked_sign _ _ = signs.Other

unfoldable pub sign_of : MarkedToken → Sign
sign_of t = (if t.token.priority == 0 then unranked_sign t.mark t.token.kind t.token.spelling else ranked_sign t.mark t.token.kind)

-- The number of a kind of signs, by which signs are compared, and the number of an argument.
abbrev pub kind_of : Sign → ℕ
kind_of signs.Identifier = 0
kind_of signs.Functor = 1
kind_of signs.Predicate = 2
kind_of signs.Attribute = 3
kind_of signs.Mode = 4
kind_of signs.Structure = 5
kind_of signs.Selector = 6
kind_of signs.LeftBracket = 7
kind_of signs.RightBracket = 8
kind_of signs.It = 9
kind_of signs.The = 10
kind_of signs.Of = 11
kind_of signs.Over = 12
kind_of signs.Non = 13
kind_of signs.Be = 14
kind_of signs.Being = 15
kind_of signs.Open = 16
kind_of signs.Close = 17
kind_of signs.OpenAggregate = 18
kind_of signs.CloseAggregate = 19
kind_of signs.OpenBrace = 20
kind_of signs.CloseBrace = 21
kind_of signs.OpenSquare = 22
kind_of signs.CloseSquare = 23
kind_of signs.ListComma = 24
kind_of signs.DividingComma = 25
kind_of signs.Other = 26
kind_of (signs.Argument n) = 27
kind_of signs.For = 28
kind_of signs.Ex = 29
kind_of signs.Holds = 30
kind_of signs.St = 31
kind_of signs.Not = 32
kind_of signs.Contradiction = 33
kind_of signs.Thesis = 34
kind_of signs.Is = 35
kind_of signs.Or = 36
kind_of signs.Implies = 37
kind_of signs.Iff = 38
kind_of signs.And = 39

abbrev pub argument_of : Sign → ℕ
argument_of (signs.Argument n) = n
argument_of _ = 0
