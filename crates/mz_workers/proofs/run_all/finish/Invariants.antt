use Rattle.std.proofs.Common.{◌≡◌}
use Rattle.mz_workers.specs.Work.{work_left}
use Rattle.mz_workers.proofs.run_all.finish.Given as goal

abbrev pub invariant-loop-desk : goal.invariant-loop-desk
invariant-loop-desk g l = l.desk.corpus ≡ l.initial.desk.corpus

abbrev pub decreases-loop-desk : goal.decreases-loop-desk
decreases-loop-desk g l = work_left l.desk.rows
