use Rattle.std.proofs.Common.{◌-◌, length}
use Rattle.mz_rows.proofs.table.Table.+claims_from.Given as goal

abbrev pub decreases-claims_from : goal.decreases-claims_from
decreases-claims_from l = length l.self.now.rows - l.row
