use Rattle.std.proofs.Common.{◌≡◌, take, map}
use Rattle.mz_logic.specs.Substitution.{substitute}
use Rattle.mz_logic.specs.BodyTest.{at_one}
use Rattle.mz_logic.proofs.bodies.+substitute.Given as goal

abbrev pub invariant-are_terms_at-loop-i : goal.invariant-are_terms_at-loop-i
invariant-are_terms_at-loop-i l = map (substitute l.depth (at_one l.t)) (take l.i l.us-inside.items.items) ≡ take l.i l.vs-inside.items.items
