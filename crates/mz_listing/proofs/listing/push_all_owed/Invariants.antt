use Rattle.std.proofs.Common.{◌≡◌, ◌++◌, take}
use Rattle.std.specs.List.{flat_map}
use Rattle.mz_listing.specs.Listing.{owed_line}
use Rattle.mz_listing.proofs.listing.push_all_owed.Given as goal

abbrev pub invariant-loop-s : goal.invariant-loop-s
invariant-loop-s l = l.text ≡ l.initial.text ++ flat_map (owed_line l.head l.kind) (take l.s-index l.s-items)
