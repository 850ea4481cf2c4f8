use Rattle.mz_justified.proofs.GroundLemmas.{told_follows}
use Rattle.mz_justified.proofs.grounds.follows.Goals as goal

pub returns-in-Some-clause-statement : goal.returns-in-Some-clause-statement
returns-in-Some-clause-statement c = told_follows c.args.linked c.args.ctx.now c.in-Some.field-0 c.in-Some.is
