use Rattle.std.proofs.Common.{◌≡◌, None, take}
use Rattle.std.specs.Prelude.{find}
use Rattle.mz_listing.specs.Listing.{is_export_of}
use Rattle.mz_listing.proofs.listing.push_named.Given as goal

abbrev pub invariant-loop-i : goal.invariant-loop-i
invariant-loop-i l = record { absent : find (is_export_of l.name) (take l.i l.exports) ≡ None; text : l.text ≡ l.initial.text }
