use Rattle.std.proofs.Common.{◌≡◌, ◌++◌, take}
use Rattle.std.specs.List.{flat_map}
use Rattle.mz_listing.specs.Listing.{named_lines}
use Rattle.mz_listing.proofs.listing.push_all_named.Given as goal

abbrev pub invariant-loop-name : goal.invariant-loop-name
invariant-loop-name l = l.text ≡ l.initial.text ++ flat_map (named_lines l.exports) (take l.name-index l.names)
