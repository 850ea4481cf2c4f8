use Rattle.std.proofs.Common.{◌≡◌, true, take}
use Rattle.std.specs.List.{list_all}
use Rattle.mz_items.specs.Closed.{is_locus}
use Rattle.mz_structure_items.proofs.closed.are_loci.Given as goal

abbrev pub invariant-loop-place : goal.invariant-loop-place
invariant-loop-place l = list_all (is_locus l.n) (take l.place-index l.places) ≡ true
