-- The sets of signs that parts of formulas begin with, and that may go on them.
use Rattle.std.specs.Prelude.{Bool, true, false, List, [], ◌∷◌, ◌&&◌}
use Rattle.mz_base.specs.declared.token.MarkedToken.{MarkedToken}
use Rattle.mz_tree.specs.Rules.{Operator, conjoins, disjoins, concludes}
use Rattle.mz_pterm.specs.declared.sign.Sign.{Sign}
use Rattle.mz_pterm.specs.declared.sign.Sign.TheVariants as signs
use Rattle.mz_pterm.specs.Sign.{sign_of}

abbrev pub begins_term : Sign → Bool
begins_term signs.Functor = true
begins_term signs.Identifier = true
begins_term signs.Structure = true
begins_term signs.LeftBracket = true
begins_term signs.It = true
begins_term signs.The = true
begins_term (signs.Argument n) = true
begins_term signs.Open = true
begins_term signs.OpenBrace = true
begins_term signs.OpenSquare = true
begins_term _ = false

-- What may go on a formula without formulas in it.
abbrev pub goes_on_atom : Sign → Bool
goes_on_atom signs.Identifier = true
goes_on_atom signs.Functor = true
goes_on_atom signs.Predicate = true
goes_on_atom signs.Attribute = true
goes_on_atom signs.Mode = true
goes_on_atom signs.Structure = true
goes_on_atom signs.LeftBracket = true
goes_on_atom signs.It = true
goes_on_atom signs.The = true
goes_on_atom signs.Of = true
goes_on_atom signs.Over = true
goes_on_atom signs.Non = true
goes_on_atom signs.Is = true
goes_on_atom (signs.Argument n) = true
goes_on_atom signs.Open = true
goes_on_atom signs.OpenBrace = true
goes_on_atom signs.OpenSquare = true
goes_on_atom signs.ListComma = true
goes_on_atom _ = false

-- What may go on a formula that takes such operators.
abbrev pub goes_open : (Operator → Bool) → Sign → Bool
goes_open takes signs.And = takes conjoins
goes_open takes signs.Or = takes disjoins
goes_open takes signs.Implies = takes concludes
goes_open takes signs.Iff = takes concludes
goes_open takes s = goes_on_atom s

abbrev pub is_identifier : Sign → Bool
is_identifier signs.Identifier = true
is_identifier _ = false

abbrev pub is_open_square : Sign → Bool
is_open_square signs.OpenSquare = true
is_open_square _ = false

-- an identifier comes next, and a `[` behind it
abbrev pub private_next : List MarkedToken → Bool
private_next [] = false
private_next (t ∷ []) = false
private_next (t ∷ (u ∷ ts)) = is_identifier (sign_of t) && is_open_square (sign_of u)
