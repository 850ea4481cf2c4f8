use Rattle.std.proofs.Common.{◌≡◌, ◌++◌, drop}
use Rattle.mz_steps.specs.Equalities.{neighbours}
use Rattle.mz_steps.proofs.equalities.neighbours.Given as goal

abbrev pub invariant-loop-u : goal.invariant-loop-u
invariant-loop-u l = l.out ++ neighbours l.t (drop l.u-index l.others) ≡ neighbours l.first l.others
