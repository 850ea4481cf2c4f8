use Rattle.mz_parts.proofs.TermLemmas.{told_all_refused, told_all_read}
use Rattle.mz_parts.proofs.retyped.read_all.Goals as goal

pub returns-in-Ok : goal.returns-in-Ok
returns-in-Ok c = told_all_read _ _ _ _ _ _ _ _ _ _ _ _ _ _ _ c.xs.view_is c.read_one.ensures c.in-Ok.is c.as_slice.ensures.value c.read_each.ensures

pub returns-in-Err : goal.returns-in-Err
returns-in-Err c = told_all_refused _ _ _ _ _ _ _ _ _ _ _ _ _ c.xs.view_is c.read_one.ensures c.in-Err.is
