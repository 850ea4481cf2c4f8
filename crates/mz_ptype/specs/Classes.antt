-- The sets of signs that parts of types and declarations begin with.
use Rattle.std.specs.Prelude.{Bool, true, false, List, [], ◌∷◌}
use Rattle.mz_base.specs.declared.token.MarkedToken.{MarkedToken}
use Rattle.mz_pterm.specs.declared.sign.Sign.{Sign}
use Rattle.mz_pterm.specs.declared.sign.Sign.TheVariants.{Identifier, Attribute, Mode, Structure, Over, Non, Be, Being, Open}
use Rattle.mz_pterm.specs.Classes.{is_of}
use Rattle.mz_pterm.specs.Sign.{sign_of}

abbrev pub is_non : Sign → Bool
is_non Non = true
is_non _ = false

-- the argument of an adjective
abbrev pub begins_argument : Sign → Bool
begins_argument Identifier = true
begins_argument Open = true
begins_argument _ = false

abbrev pub begins_adjective : Sign → Bool
begins_adjective Non = true
begins_adjective Identifier = true
begins_adjective Open = true
begins_adjective Attribute = true
begins_adjective _ = false

-- what a type begins with behind its adjectives
abbrev pub begins_radix : Sign → Bool
begins_radix Mode = true
begins_radix Structure = true
begins_radix _ = false

abbrev pub is_over : Sign → Bool
is_over Over = true
is_over _ = false

-- what stands before the arguments of a mode, and of a structure
abbrev pub is_preposition : Bool → Sign → Bool
is_preposition false s = is_of s
is_preposition true s = is_over s

abbrev pub is_being : Sign → Bool
is_being Be = true
is_being Being = true
is_being _ = false

-- the next token, where there is one, is of the set
abbrev pub next_is : (Sign → Bool) → List MarkedToken → Bool
next_is c [] = false
next_is c (t ∷ ts) = c (sign_of t)
