use Rattle.std.specs.Arc.{arc_value}
use Rattle.mz_types.proofs.RowLemmas.{told_start, told_turn}
use Rattle.mz_types.proofs.row_types.rows_add.Goals as goal

pub loop-row-init : goal.loop-row-init
loop-row-init c = told_start (λ q. arc_value q) c.args.clauses.now c.args.constants.now c.args.s c.args.args.now c.args.rows.now c.new-out.result c.new-out.ensures

pub loop-row-preserved : goal.loop-row-preserved
loop-row-preserved c = told_turn arc_value _ _ _ _ _ _ _ _ _ _ _ c.loop-row-test.true c.row-item.is c.deref.ensures c.loop-row.invariant c.in_ok-xs.ensures c.in_ok-append.ensures
