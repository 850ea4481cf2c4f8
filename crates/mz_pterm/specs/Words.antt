-- Tokens that are told by their sign: those that have a place alone, and words.
use Rattle.std.specs.Prelude.{◌≡◌, Bool, true, false, List, [], ◌∷◌, Option, Some, None, codes}
use Rattle.mz_base.specs.declared.place.Place.{Place}
use Rattle.mz_base.specs.declared.symbol_kind.SymbolKind.TheVariants as symbols
use Rattle.mz_base.specs.declared.token.TokenKind.TheVariants as kinds
use Rattle.mz_forms.specs.Form.{Form, Agrees, one_of}
use Rattle.mz_base.specs.declared.token.Mark.TheVariants as marks
use Rattle.mz_base.specs.declared.token.MarkedToken.{MarkedToken}
use Rattle.mz_tree.specs.declared.word.Word.{Word}
use Rattle.mz_tree.specs.Spelled.{marked, reserved, special, identifier, symbol, mode, list_comma}
use Rattle.mz_pterm.specs.declared.sign.Sign.{Sign}
use Rattle.mz_pterm.specs.declared.sign.Sign.TheVariants as signs

-- reserved words, brackets and commas
abbrev pub is_fixed : Sign → Bool
is_fixed signs.It = true
is_fixed signs.The = true
is_fixed signs.Of = true
is_fixed signs.Over = true
is_fixed signs.Non = true
is_fixed signs.Be = true
is_fixed signs.Being = true
is_fixed signs.For = true
is_fixed signs.Ex = true
is_fixed signs.Holds = true
is_fixed signs.St = true
is_fixed signs.Not = true
is_fixed signs.Contradiction = true
is_fixed signs.Thesis = true
is_fixed signs.Is = true
is_fixed signs.Or = true
is_fixed signs.Implies = true
is_fixed signs.Iff = true
is_fixed signs.And = true
is_fixed signs.Open = true
is_fixed signs.Close = true
is_fixed signs.OpenAggregate = true
is_fixed signs.CloseAggregate = true
is_fixed signs.OpenBrace = true
is_fixed signs.CloseBrace = true
is_fixed signs.OpenSquare = true
is_fixed signs.CloseSquare = true
is_fixed signs.ListComma = true
is_fixed signs.DividingComma = true
is_fixed _ = false

-- the token of such a sign with this place
abbrev pub fixed : Sign → Place → MarkedToken
fixed signs.It p = reserved p (codes "it")
fixed signs.The p = reserved p (codes "the")
fixed signs.Of p = reserved p (codes "of")
fixed signs.Over p = reserved p (codes "over")
fixed signs.Non p = reserved p (codes "non")
fixed signs.Be p = reserved p (codes "be")
fixed signs.Being p = reserved p (codes "being")
fixed signs.For p = reserved p (codes "for")
fixed signs.Ex p = reserved p (codes "ex")
fixed signs.Holds p = reserved p (codes "holds")
fixed signs.St p = reserved p (codes "st")
fixed signs.Not p = reserved p (codes "not")
fixed signs.Contradiction p = reserved p (codes "contradiction")
fixed signs.Thesis p = reserved p (codes "thesis")
fixed signs.Is p = reserved p (codes "is")
fixed signs.Or p = reserved p (codes "or")
fixed signs.Implies p = reserved p (codes "implies")
fixed signs.Iff p = reserved p (codes "iff")
fixed signs.And p = special p (codes "&")
fixed signs.Open p = special p (codes "(")
fixed signs.Close p = special p (codes ")")
fixed signs.OpenAggregate p = special p (codes "(#")
fixed signs.CloseAggregate p = special p (codes "#)")
fixed signs.OpenBrace p = special p (codes "{")
fixed signs.CloseBrace p = special p (codes "}")
fixed signs.OpenSquare p = special p (codes "[")
fixed signs.CloseSquare p = special p (codes "]")
fixed signs.ListComma p = list_comma p
fixed signs.DividingComma p = marked kinds.Special p (codes ",") 0 marks.Dividing
fixed _ p = special p []

-- identifiers and the symbols that have no priority
abbrev pub is_named : Sign → Bool
is_named signs.Identifier = true
is_named signs.Predicate = true
is_named signs.Attribute = true
is_named signs.Mode = true
is_named signs.Structure = true
is_named signs.Selector = true
is_named signs.LeftBracket = true
is_named signs.RightBracket = true
is_named _ = false

-- the token of such a sign with this word
abbrev pub named : Sign → Word → MarkedToken
named signs.Identifier w = identifier w
named signs.Predicate w = symbol symbols.Predicate w
named signs.Attribute w = symbol symbols.Attribute w
named signs.Mode w = mode w
named signs.Structure w = symbol symbols.Structure w
named signs.Selector w = symbol symbols.Selector w
named signs.LeftBracket w = symbol symbols.LeftBracket w
named signs.RightBracket w = symbol symbols.RightBracket w
named _ w = identifier w

-- the place and the spelling of a token
abbrev pub word_of : MarkedToken → Word
word_of t = record { place = t.token.place; spelling = t.token.spelling }

abbrev pub word : Sign → Form MarkedToken
word s = one_of Place (fixed s)

abbrev pub name : Sign → Form MarkedToken
name s = one_of Word (named s)

abbrev pub same_place : Place → Place
same_place p = p

abbrev pub same_word : Word → Word
same_word w = w

-- The next token was taken where it has this sign, and else nothing was.
abbrev pub TakesPlace : Sign → List MarkedToken → Option Place → List MarkedToken → Type 0
TakesPlace s before (Some p) after = before ≡ fixed s p ∷ after
TakesPlace s before None after = (before ≡ after) × ((p : Place) → Agrees before (fixed s p ∷ []) → ⊥)
