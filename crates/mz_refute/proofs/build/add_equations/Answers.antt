use Rattle.std.proofs.Common.{arith}
use Rattle.mz_refute.proofs.GrowLemmas.{equations_turn}
use Rattle.mz_refute.proofs.ListLaws.{get_any}
use Rattle.mz_refute.proofs.build.add_equations.Goals as goal

pub loop-i-preserved : goal.loop-i-preserved
loop-i-preserved c =
    equations_turn c.args.table.now c.loop-i.table c.add_equation.new.table c.args.classes.now c.args.disequal.now c.args.ground.now.equations c.loop-i.i _ c.get.result.now
    c.loop-i.invariant c.in_ok-add_equation.ensures (get_any c.args.disequal.now c.loop-i.i _ (omega arith)) c.get.ensures
