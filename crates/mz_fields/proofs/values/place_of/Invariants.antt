use Rattle.std.proofs.Common.{◌≡◌, ◌+◌, length}
use Rattle.mz_fields.specs.Values.{place_of}
use Rattle.mz_fields.proofs.ValueLemmas.{later}
use Rattle.mz_fields.proofs.values.place_of.Given as goal

abbrev pub invariant-loop-t : goal.invariant-loop-t
invariant-loop-t l = (later l.place (place_of l.s l.rest) ≡ place_of l.s l.selectors) × (l.place + length l.rest ≡ length l.selectors)

abbrev pub decreases-loop-t : goal.decreases-loop-t
decreases-loop-t l = length l.rest
