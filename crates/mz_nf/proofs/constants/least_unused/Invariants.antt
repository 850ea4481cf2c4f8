use Rattle.std.proofs.Common.{◌≡◌, ◌≤◌, ◌<◌, ◌-◌, ℕ, true}
use Rattle.mz_nf.specs.Constants.{has}
use Rattle.mz_nf.proofs.constants.least_unused.Given as goal

abbrev pub invariant-loop-number : goal.invariant-loop-number
invariant-loop-number l = record {
  reached : l.from ≤ l.number;
  all_used : (j : ℕ) → l.from ≤ j → j < l.number → has l.used j ≡ true;
}

abbrev pub decreases-loop-number : goal.decreases-loop-number
decreases-loop-number l = 4294967296 - l.number
