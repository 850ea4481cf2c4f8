use Rattle.mz_performing.proofs.PerformLemmas.{told_performed}
use Rattle.mz_performing.proofs.perform.perform.Goals as goal

pub returns-in_ok-carry_out-in-Ok : goal.returns-in_ok-carry_out-in-Ok
returns-in_ok-carry_out-in-Ok c = told_performed _ _ _ _ _ _ _ _ _ _ c.fit.ensures c.in-Ok.is c.in_ok-carry_out-in-Ok.ensures.context c.in_ok-carry_out-in-Ok.ensures.block
