-- The sets of tokens that patterns begin with, and that may go on them.
use Rattle.std.specs.Prelude.{Bool, true, false, List, [], ◌∷◌}
use Rattle.mz_base.specs.declared.token.MarkedToken.{MarkedToken}
use Rattle.mz_pterm.specs.declared.sign.Sign.{Sign}
use Rattle.mz_pterm.specs.declared.sign.Sign.TheVariants as signs
use Rattle.mz_pterm.specs.Classes.{is_of}
use Rattle.mz_pterm.specs.Sign.{sign_of}
use Rattle.mz_patom.specs.Classes.{is_identifier}
use Rattle.mz_ppattern.specs.declared.patterns.PatternKind.{PatternKind}
use Rattle.mz_ppattern.specs.declared.patterns.PatternKind.TheVariants as pattern_kinds

-- loci: an identifier, or identifiers in parentheses
abbrev pub is_loci : Sign → Bool
is_loci signs.Identifier = true
is_loci signs.Open = true
is_loci _ = false

abbrev pub begins_loci : MarkedToken → Bool
begins_loci t = is_loci (sign_of t)

abbrev pub begins_identifiers : MarkedToken → Bool
begins_identifiers t = is_identifier (sign_of t)

abbrev pub begins_mode_loci : MarkedToken → Bool
begins_mode_loci t = is_of (sign_of t)

-- what may go on a list of identifiers or selectors
abbrev pub goes_on_names : Sign → Bool
goes_on_names signs.ListComma = true
goes_on_names signs.DividingComma = true
goes_on_names _ = false

-- what may go on a pattern: loci, the loci of a mode, and a comma
abbrev pub goes_on_pattern : Sign → Bool
goes_on_pattern signs.Identifier = true
goes_on_pattern signs.Open = true
goes_on_pattern signs.Of = true
goes_on_pattern signs.ListComma = true
goes_on_pattern signs.DividingComma = true
goes_on_pattern _ = false

-- Which pattern begins with an identifier, by the token behind it.
abbrev pub kind_behind : Sign → PatternKind
kind_behind signs.Functor = pattern_kinds.Functor
kind_behind signs.Is = pattern_kinds.Attribute
kind_behind _ = pattern_kinds.Predicate

abbrev pub second_kind : List MarkedToken → PatternKind
second_kind [] = pattern_kinds.Predicate
second_kind (n ∷ rest) = kind_behind (sign_of n)

abbrev pub first_kind : Sign → List MarkedToken → PatternKind
first_kind signs.Identifier rest = second_kind rest
first_kind signs.Predicate rest = pattern_kinds.Predicate
first_kind signs.Mode rest = pattern_kinds.Mode
first_kind _ rest = pattern_kinds.Functor

-- Which pattern the next tokens begin, if any.
abbrev pub kind_next : List MarkedToken → PatternKind
kind_next [] = pattern_kinds.Functor
kind_next (t ∷ rest) = first_kind (sign_of t) rest
