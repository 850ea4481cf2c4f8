use Rattle.std.proofs.Common.{map, take}
use Rattle.std.specs.Arc.{arc_value}
use Rattle.mz_types.specs.RowTypes.{RowsAdd}
use Rattle.mz_types.proofs.row_types.rows_add.Given as goal

abbrev pub invariant-loop-row : goal.invariant-loop-row
invariant-loop-row l = RowsAdd l.clauses l.constants l.s l.args (map arc_value (take l.row-index l.rows)) l.out
