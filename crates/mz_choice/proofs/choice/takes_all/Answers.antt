use Rattle.mz_choice.proofs.ChoiceLemmas.{told_stops, told_end, told_no_places}
use Rattle.mz_choice.proofs.choice.takes_all.Goals as goal

pub returns-in-None-2 : goal.returns-in-None-2
returns-in-None-2 c = told_stops _ _ _ _ _ _ _ _ _ _ _ _ _ _ _ c.in-Some.ensures.cases.0 c.in-Some-split_first.ensures.cases.0 c.in_ok-takes-in-Some-split_first.ensures c.in-None-2.is c.loop-p.invariant

pub returns-then-ts-eq0 : goal.returns-then-ts-eq0
returns-then-ts-eq0 c = told_end _ _ _ _ _ _ _ _ _ _ c.in_default.ensures.cases c.if-ts-eq0.true c.loop-p.invariant

pub returns-else-ts-eq0 : goal.returns-else-ts-eq0
returns-else-ts-eq0 c = told_no_places _ _ _ _ _ _ _ _ _ _ c.in_default.ensures.cases c.if-ts-eq0.false c.loop-p.invariant
