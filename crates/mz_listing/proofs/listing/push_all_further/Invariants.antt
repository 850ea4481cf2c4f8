use Rattle.std.proofs.Common.{◌≡◌, ◌++◌, take}
use Rattle.std.specs.List.{flat_map}
use Rattle.mz_listing.specs.Listing.{further_text}
use Rattle.mz_listing.proofs.listing.push_all_further.Given as goal

abbrev pub invariant-loop-f : goal.invariant-loop-f
invariant-loop-f l = l.text ≡ l.initial.text ++ flat_map (further_text) (take l.f-index l.fs)
