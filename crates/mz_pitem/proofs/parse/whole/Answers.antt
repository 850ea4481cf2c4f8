use Rattle.mz_pitem.proofs.WholeArticle.{not_read, read_so}
use Rattle.mz_pitem.proofs.parse.whole.Goals as goal

pub returns-in-Ok : goal.returns-in-Ok
returns-in-Ok c = rw c.ended.ensures (read_so _ c.args.end _ _ c.in-Ok.ensures)

pub returns-in-Err : goal.returns-in-Err
returns-in-Err c = rw c.fault.ensures (not_read _ c.args.end _ _ c.in-Err.ensures)
