-- Places in a text.
use Rattle.std.specs.Prelude.{ℕ, ◌+◌, ◌==◌, if◌then◌else◌, List, fold, take}
use Rattle.mz_base.specs.declared.place.Place.{Place}

-- the place of the first byte
abbrev pub start : Place
start = record { line = 1; column = 1 }

-- where the text goes on after a byte: a line ends after its byte 10
abbrev pub after : Place → ℕ → Place
after p b = if b == 10 then record { line = p.line + 1; column = 1 } else record { line = p.line; column = p.column + 1 }

-- where the text goes on after some bytes
abbrev pub end_from : Place → List ℕ → Place
end_from p bs = fold after p bs

-- the place just after a text's last byte
abbrev pub end_of : List ℕ → Place
end_of bs = end_from start bs

-- the place of the byte at k
abbrev pub place_at : List ℕ → ℕ → Place
place_at bs k = end_of (take k bs)
