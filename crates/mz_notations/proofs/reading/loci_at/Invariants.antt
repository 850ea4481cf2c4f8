use Rattle.std.proofs.Common.{◌≡◌, map, take}
use Rattle.mz_notations.specs.Reading.{locus_at}
use Rattle.mz_notations.proofs.reading.loci_at.Given as goal

abbrev pub invariant-loop-place : goal.invariant-loop-place
invariant-loop-place l = l.out.items ≡ map (locus_at l.least) (take l.place-index l.places)
