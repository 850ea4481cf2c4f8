use Rattle.mz_parts.proofs.TermLemmas.{told_sides_stop, told_sides_turn}
use Rattle.mz_parts.proofs.retyped.read_each_side.Goals as goal

pub loop-l-preserved : goal.loop-l-preserved
loop-l-preserved c = told_sides_turn _ _ _ _ _ _ _ _ _ _ _ _ _ _ _ c.in-Some.ensures.cases.0 c.read_side.ensures c.in-Ok.is c.loop-l.invariant

pub returns-in-Err : goal.returns-in-Err
returns-in-Err c = told_sides_stop _ _ _ _ _ _ _ _ _ _ _ _ _ _ _ _ c.in-Some.ensures.cases.0 c.read_side.ensures c.in-Err.is c.loop-l.invariant
