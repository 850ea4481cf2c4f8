use Rattle.std.proofs.Common.{refl}
use Rattle.mz_ground.proofs.InstanceLemmas.{among_more}
use Rattle.mz_ground.proofs.ground_part.Ground.add_at.Goals as goal

pub loop-place-preserved : goal.loop-place-preserved
loop-place-preserved c = among_more _ _ _ _ _ _ _ _ c.requires.numbered c.loop-place-test.true refl c.place_like.ensures c.requires.within c.loop-place.invariant c.in_ok-add_match.ensures
