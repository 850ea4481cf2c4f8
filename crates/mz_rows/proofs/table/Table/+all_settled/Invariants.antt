use Rattle.std.proofs.Common.{length}
use Rattle.mz_rows.proofs.table.Table.+all_settled.Given as goal

abbrev pub decreases-all_settled : goal.decreases-all_settled
decreases-all_settled l = length l.rows.now
