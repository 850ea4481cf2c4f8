use Rattle.std.proofs.Common.{◌≡◌, length}
use Rattle.mz_compact.proofs.SideLemmas.{Siding}
use Rattle.mz_compact.proofs.sides.justify_sides.Given as goal

abbrev pub invariant-loop-k : goal.invariant-loop-k
invariant-loop-k l = Siding l.walker.env.now l.walker.at l.ctx l.opening.first l.semicolon l.rest l.equations l.left l.os l.sides l.ss l.initial.left l.initial.os × (length l.equations ≡ length l.rest)

abbrev pub decreases-loop-k : goal.decreases-loop-k
decreases-loop-k l = length l.rest
