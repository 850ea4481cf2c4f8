use Rattle.mz_compact.proofs.SideLemmas.{told_no_equation, told_side_unjustified, told_sides_end}
use Rattle.mz_compact.proofs.sides.justify_sides.Goals as goal

pub returns-in-Err : goal.returns-in-Err
returns-in-Err c = told_side_unjustified _ _ _ _ _ _ _ _ _ _ _ _ _ _ _ _ _ _ _ _ _ _ _ _ _ c.in-Some.ensures.cases.0 c.in-Some-split_first.ensures.cases.0 c.place_behind-behind.ensures c.justify_simply.ensures c.in-Err.is c.loop-k.invariant.0

pub returns : goal.returns
returns c = told_sides_end _ _ _ _ _ _ _ _ _ _ _ _ _ c.in_default.ensures.cases c.loop-k.invariant.1 c.loop-k.invariant.0

pub unreachable-requires : goal.unreachable-requires
unreachable-requires c = told_no_equation _ _ _ _ c.in-Some.ensures.cases.0 c.in-None.ensures.cases c.loop-k.invariant.1
