use Rattle.std.proofs.Common.{◌≡◌, ◌++◌, drop}
use Rattle.mz_problem.specs.Opened.{guards_from}
use Rattle.mz_problem.proofs.opened.guards_from.Given as goal

abbrev pub invariant-loop-ty : goal.invariant-loop-ty
invariant-loop-ty l = l.out ++ guards_from l.n (drop l.ty-index l.types) ≡ guards_from l.from l.types
