-- The sets of signs that parts of the grammar begin with, and that may go on them.
use Rattle.std.specs.Prelude.{Bool, true, false, ◌||◌}
use Rattle.mz_pterm.specs.declared.sign.Sign.{Sign}
use Rattle.mz_pterm.specs.declared.sign.Sign.TheVariants.{Identifier, Functor, Structure, LeftBracket, It, The, Of, Argument, Open, Close, CloseAggregate, OpenBrace, CloseBrace, OpenSquare, CloseSquare, ListComma}

abbrev pub begins_operand : Sign → Bool
begins_operand Identifier = true
begins_operand Structure = true
begins_operand LeftBracket = true
begins_operand It = true
begins_operand The = true
begins_operand (Argument n) = true
begins_operand Open = true
begins_operand OpenBrace = true
begins_operand OpenSquare = true
begins_operand _ = false

abbrev pub is_open : Sign → Bool
is_open Open = true
is_open _ = false

abbrev pub is_of : Sign → Bool
is_of Of = true
is_of _ = false

abbrev pub is_list_comma : Sign → Bool
is_list_comma ListComma = true
is_list_comma _ = false

-- what may go on a term: a functor symbol, an operand, and behind a selector `of`
abbrev pub goes_on_term : Sign → Bool
goes_on_term Functor = true
goes_on_term Identifier = true
goes_on_term Structure = true
goes_on_term LeftBracket = true
goes_on_term It = true
goes_on_term The = true
goes_on_term Of = true
goes_on_term (Argument n) = true
goes_on_term Open = true
goes_on_term OpenBrace = true
goes_on_term OpenSquare = true
goes_on_term _ = false

-- what may go on terms
abbrev pub goes_on_terms : Sign → Bool
goes_on_terms s = goes_on_term s || is_list_comma s

-- brackets that close
abbrev pub closes : Sign → Bool
closes Close = true
closes CloseAggregate = true
closes CloseBrace = true
closes CloseSquare = true
closes _ = false
