use Rattle.std.proofs.Common.{◌≡◌, length}
use Rattle.mz_places.proofs.PlaceLemmas.{Gives}
use Rattle.mz_places.proofs.places.read_each.Given as goal

abbrev pub invariant-loop-next : goal.invariant-loop-next
invariant-loop-next l = Gives l.env l.initial.ctx l.least l.left l.rest l.out l.initial.left l.trees l.initial.out × (l.ctx ≡ l.initial.ctx)

abbrev pub decreases-loop-next : goal.decreases-loop-next
decreases-loop-next l = length l.rest
