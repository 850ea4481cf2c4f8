use Rattle.std.proofs.Common.{◌≡◌, ◌≤◌, length, take}
use Rattle.mz_context.specs.Changes.{places_in_use}
use Rattle.mz_context.proofs.constants.places_in_use.Given as goal

abbrev pub invariant-loop-places : goal.invariant-loop-places
invariant-loop-places l = (l.places ≤ length l.ks) × (places_in_use l.ks ≡ places_in_use (take l.places l.ks))

abbrev pub decreases-loop-places : goal.decreases-loop-places
decreases-loop-places l = l.places
