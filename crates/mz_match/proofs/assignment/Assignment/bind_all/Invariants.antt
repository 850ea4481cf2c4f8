use Rattle.std.specs.Prelude.{true}
use Rattle.mz_match.specs.Places.{Extends}
use Rattle.mz_match.proofs.PlaceLemmas.{FitsTo}
use Rattle.mz_match.proofs.assignment.Assignment.bind_all.Given as goal

abbrev pub invariant-loop-k : goal.invariant-loop-k
invariant-loop-k l = Extends (λ a. FitsTo l.scope l.local a l.k) l.initial.self l.self true
