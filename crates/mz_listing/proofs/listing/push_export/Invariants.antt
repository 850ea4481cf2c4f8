use Rattle.std.proofs.Common.{◌≡◌, ◌++◌, take}
use Rattle.mz_listing.specs.Listing.{items_lines}
use Rattle.mz_listing.proofs.listing.push_export.Given as goal

abbrev pub invariant-loop-i : goal.invariant-loop-i
invariant-loop-i l = l.text ≡ l.initial.text ++ items_lines l.export.name 1 (take l.i l.export.items)
