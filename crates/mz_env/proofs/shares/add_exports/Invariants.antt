use Rattle.std.proofs.Common.{◌≡◌, drop}
use Rattle.mz_environment.specs.Environment.{joined}
use Rattle.mz_env.specs.Shares.{shares_of}
use Rattle.mz_env.proofs.shares.add_exports.Given as goal

abbrev pub invariant-loop-i : goal.invariant-loop-i
invariant-loop-i l = joined l.out (shares_of l.articles l.kind (drop l.i l.es)) ≡ joined l.initial.out (shares_of l.articles l.kind l.es)
