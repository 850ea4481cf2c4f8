use Rattle.std.proofs.Common.{◌≡◌, drop}
use Rattle.mz_environment.specs.Environment.{joined}
use Rattle.mz_env.specs.Shares.{wholes}
use Rattle.mz_env.proofs.shares.add_wholes.Given as goal

abbrev pub invariant-loop-item : goal.invariant-loop-item
invariant-loop-item l = joined l.out (wholes l.at (drop l.item-index l.item-items)) ≡ joined l.initial.out (wholes l.fn.start l.item-items)
