use Rattle.mz_rows.specs.Table.{IsFirstReady}
use Rattle.mz_rows.proofs.table.Table.first_ready.Given as goal

abbrev pub invariant-loop-row : goal.invariant-loop-row
invariant-loop-row l = IsFirstReady l.self.corpus.articles l.self.rows l.row l.best
