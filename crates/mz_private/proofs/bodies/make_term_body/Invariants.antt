use Rattle.std.proofs.Common.{◌≡◌}
use Rattle.mz_private.specs.Bodies.{term_over_places}
use Rattle.mz_private.proofs.bodies.make_term_body.Given as goal

abbrev pub invariant-loop-left : goal.invariant-loop-left
invariant-loop-left l = term_over_places l.least l.left l.t ≡ term_over_places l.least l.count l.initial.t

abbrev pub decreases-loop-left : goal.decreases-loop-left
decreases-loop-left l = l.left
