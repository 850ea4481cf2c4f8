-- Where tokens end.
use Rattle.std.specs.Prelude.{ℕ, ◌+◌, ◌-◌, min, List, length, slice_get, Option, Some, None}
use Rattle.mz_base.specs.Place.{start}
use Rattle.mz_base.specs.declared.place.Place.{Place}
use Rattle.mz_base.specs.declared.token.Token.{Token}
use Rattle.mz_base.specs.declared.token.MarkedToken.{MarkedToken}

-- a token without its mark
abbrev pub token_of : MarkedToken → Token
token_of m = m.token

-- just behind a token, in its line; a column stands still at its last value
abbrev pub end_behind : Token → Place
end_behind t = record { line = t.place.line; column = min (t.place.column + length t.spelling) 18446744073709551615 }

-- just behind a token, or the start of a text where there is none
abbrev pub end_behind_any : Option Token → Place
end_behind_any None = start
end_behind_any (Some t) = end_behind t

-- just behind the last token
abbrev pub end_of : List Token → Place
end_of ts = end_behind_any (slice_get ts (length ts - 1))
