use Rattle.std.proofs.Common.{◌≡◌, map, take}
use Rattle.mz_turns.specs.Dependencies.{place_of}
use Rattle.mz_rows.proofs.links.places_of.Given as goal

abbrev pub invariant-loop-name : goal.invariant-loop-name
invariant-loop-name l = l.items.items ≡ map (place_of l.articles) (take l.name-index l.names)
