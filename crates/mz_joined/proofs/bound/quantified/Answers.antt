use Rattle.std.proofs.Common.{refl}
use Rattle.mz_joined.proofs.BoundLemmas.{told_stop, told_turn}
use Rattle.mz_joined.proofs.bound.quantified.Goals as goal

pub returns-in-Err : goal.returns-in-Err
returns-in-Err c = told_stop _ _ _ _ _ _ _ _ _ _ _ _ c.in-Some.ensures.cases.0 refl c.in_ok-r.ensures c.in-Err.is c.loop-v.invariant

pub loop-v-preserved : goal.loop-v-preserved
loop-v-preserved c = told_turn _ _ _ _ _ _ _ _ _ _ _ _ c.in-Some.ensures.cases.0 refl c.in_ok-r.ensures c.in-Ok.is c.loop-v.invariant
