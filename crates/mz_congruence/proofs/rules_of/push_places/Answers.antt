use Rattle.std.proofs.Common.{refl}
use Rattle.mz_congruence.proofs.PlaceLemmas.{among_more}
use Rattle.mz_congruence.proofs.rules_of.push_places.Goals as goal

pub loop-k-preserved : goal.loop-k-preserved
loop-k-preserved c = among_more _ _ _ _ _ _ _ _ c.loop-k-test.true refl c.loop-k.invariant c.in_ok-push_place.ensures
