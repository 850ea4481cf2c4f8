use Rattle.mz_private.proofs.InsideLemmas.{told_outside}
use Rattle.mz_private.proofs.private.term_inside.Goals as goal

pub returns-in-Ok-clause-same : goal.returns-in-Ok-clause-same
returns-in-Ok-clause-same c = told_outside c.args.ctx.now c.enter.new.ctx c.leave.new.ctx c.args.tys.now c.constant_count-count.result c.in_ok-before.before c.in_ok-before.ensures.inside c.constant_count-count.ensures c.in_ok-before.ensures.before c.leave.ensures
