-- The place of the first token of a spelling.
use Rattle.std.specs.Prelude.{List, [], ◌∷◌, Option, Some, None}
use Rattle.mz_base.specs.declared.place.Place.{Place}
use Rattle.mz_base.specs.declared.token.MarkedToken.{MarkedToken}

-- the place of the first token, if there is one
abbrev pub first_place : List MarkedToken → Option Place
first_place [] = None
first_place (t ∷ ts) = Some t.token.place

-- the first place, if there is one, and else the second
abbrev pub place_or : Option Place → Option Place → Option Place
place_or None q = q
place_or (Some p) q = Some p
