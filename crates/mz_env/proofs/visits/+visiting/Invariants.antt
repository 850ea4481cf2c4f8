use Rattle.std.proofs.Common.{ℕ, suc, ◌+◌}
use Rattle.std.specs.Prelude.{take}
use Rattle.mz_env.specs.Visits.{Visits}
use Rattle.mz_env.proofs.visits.+visiting.Given as goal

abbrev pub decreases-visit : goal.decreases-visit
decreases-visit l = l.rest + l.rest + 1

abbrev pub decreases-visit_one : goal.decreases-visit_one
decreases-visit_one l = l.rest + l.rest

abbrev pub invariant-visit-loop-n : goal.invariant-visit-loop-n
invariant-visit-loop-n l = Visits l.exports l.initial.begun (take l.n-index l.n-items) l.begun l.out
