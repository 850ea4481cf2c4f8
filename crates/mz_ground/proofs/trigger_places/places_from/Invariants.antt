use Rattle.mz_ground.specs.Heads.{AreFrom}
use Rattle.mz_ground.proofs.trigger_places.places_from.Given as goal

abbrev pub invariant-loop-k : goal.invariant-loop-k
invariant-loop-k l = AreFrom l.start l.k l.places
