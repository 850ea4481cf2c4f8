use Rattle.std.proofs.Common.{◌≡◌, List}
use Rattle.std.specs.List.{sum_by}
use Rattle.mz_turns.specs.Row.{Row, claim_weight, wait_weight}
use Rattle.mz_turns.specs.Machine.{Blocks}
use Rattle.mz_rows.proofs.table.Table.settle_blocked.Given as goal

abbrev pub invariant-loop-row : goal.invariant-loop-row
invariant-loop-row l = record {
  corpus : l.self.corpus ≡ l.initial.self.corpus;
  claims : sum_by claim_weight l.self.rows ≡ sum_by claim_weight l.initial.self.rows;
  follows : (after : List Row) → Blocks l.initial.self.corpus.articles l.self.rows after → Blocks l.initial.self.corpus.articles l.initial.self.rows after;
}

abbrev pub decreases-loop-row : goal.decreases-loop-row
decreases-loop-row l = sum_by wait_weight l.self.rows
