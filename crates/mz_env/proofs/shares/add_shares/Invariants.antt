use Rattle.std.proofs.Common.{◌≡◌, drop}
use Rattle.mz_environment.specs.Environment.{joined}
use Rattle.mz_env.specs.Shares.{shares}
use Rattle.mz_env.proofs.shares.add_shares.Given as goal

abbrev pub invariant-loop-item : goal.invariant-loop-item
invariant-loop-item l = joined l.out (shares l.articles l.kind l.at (drop l.item-index l.item-items)) ≡ joined l.initial.out (shares l.articles l.kind l.fn.start l.item-items)
