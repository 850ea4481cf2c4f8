use Rattle.std.proofs.Common.{Some, None}
use Rattle.mz_meanings.proofs.DefiniensLemmas.{told_body}
use Rattle.mz_meanings.proofs.formula_definientia.read_body.Goals as goal

pub returns-in-None-clause-reads : goal.returns-in-None-clause-reads
returns-in-None-clause-reads c = told_body c.args.env.now c.args.ctx.now c.args.least c.args.left.now c.formula.new.left c.args.it.now None c.args.f.now c.formula.result c.in-None.is c.formula.ensures.reads

pub returns-in-Some-clause-reads : goal.returns-in-Some-clause-reads
returns-in-Some-clause-reads c = told_body c.args.env.now c.args.ctx.now c.args.least c.args.left.now c.read_with_it.new.left c.args.it.now (Some c.in-Some.ty) c.args.f.now c.read_with_it.result c.in-Some.is c.read_with_it.ensures.reads
