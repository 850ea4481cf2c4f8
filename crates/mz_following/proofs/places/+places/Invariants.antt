use Rattle.std.proofs.Common.{◌≡◌, take, map}
use Rattle.mz_logic.specs.Substitution.{substitute}
use Rattle.mz_following.specs.Places.{place_of}
use Rattle.mz_following.proofs.places.+places.Given as goal

abbrev pub invariant-terms_below-loop-t : goal.invariant-terms_below-loop-t
invariant-terms_below-loop-t l = l.out.items ≡ map (substitute l.depth (place_of l.args)) (take l.t-index l.t-items)
