use Rattle.std.proofs.Common.{◌≡◌, map, take}
use Rattle.mz_core.specs.Guard.{adjective_literal}
use Rattle.mz_clauses.proofs.guards.adjective_literals.Given as goal

abbrev pub invariant-loop-x : goal.invariant-loop-x
invariant-loop-x l = l.out.items ≡ map (adjective_literal l.t) (take l.x-index l.x-items)
