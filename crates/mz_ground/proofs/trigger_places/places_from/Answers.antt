use Rattle.std.proofs.Common.{arith}
use Rattle.mz_ground.proofs.HeadLemmas.{from_end}
use Rattle.mz_ground.proofs.trigger_places.places_from.Goals as goal

pub returns : goal.returns
returns c = from_end _ _ _ _ (omega (arith, c.loop-k-test.false, c.loop-k.auto.k-end c.requires)) c.loop-k.invariant
