use Rattle.std.proofs.Common.{◌≡◌, ◌≤◌, length, drop, Some}
use Rattle.mz_now.specs.Kept.{conjuncts_kept}
use Rattle.mz_now.proofs.stated.stated_by.Given as goal

abbrev pub invariant-loop-i : goal.invariant-loop-i
invariant-loop-i l = (l.i ≤ length l.ps) × (conjuncts_kept (drop l.i l.ps) ≡ Some l.ss)

abbrev pub decreases-loop-i : goal.decreases-loop-i
decreases-loop-i l = l.i
