use Rattle.std.proofs.Common.{◌≡◌, ◌++◌, take}
use Rattle.std.specs.List.{flat_map}
use Rattle.mz_listing.specs.Listing.{grant_line}
use Rattle.mz_listing.proofs.listing.push_all_grants.Given as goal

abbrev pub invariant-loop-f : goal.invariant-loop-f
invariant-loop-f l = l.text ≡ l.initial.text ++ flat_map (grant_line l.head) (take l.f-index l.f-items)
