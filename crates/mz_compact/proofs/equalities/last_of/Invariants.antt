use Rattle.std.proofs.Common.{◌≡◌, drop}
use Rattle.mz_steps.specs.Equalities.{last_of}
use Rattle.mz_compact.proofs.equalities.last_of.Given as goal

abbrev pub invariant-loop-u : goal.invariant-loop-u
invariant-loop-u l = last_of l.t (drop l.u-index l.others) ≡ last_of l.first l.others
