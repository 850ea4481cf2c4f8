use Rattle.std.proofs.Common.{length}
use Rattle.mz_rows.proofs.table.Table.+first_unaccepted.Given as goal

abbrev pub decreases-first_unaccepted : goal.decreases-first_unaccepted
decreases-first_unaccepted l = length l.rows.now
