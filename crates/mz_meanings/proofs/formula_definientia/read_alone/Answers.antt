use Rattle.mz_resolve.specs.Calls.{FormulaRead}
use Rattle.mz_meanings.specs.Definientia.{formula_shape, body_context}
use Rattle.mz_meanings.proofs.DefiniensLemmas.{told_alone_refused, told_alone}
use Rattle.mz_meanings.proofs.formula_definientia.read_alone.Goals as goal

pub returns-in-Err-clause-reads : goal.returns-in-Err-clause-reads
returns-in-Err-clause-reads c = told_alone_refused formula_shape (FormulaRead c.args.env.now (body_context c.args.ctx.now c.args.it.now) c.args.least) (FormulaRead c.args.env.now c.args.ctx.now c.args.least) c.args.left.now c.read_body.new.left c.args.f.now c.read_body.result c.in-Err.fault c.read_body.ensures.reads c.in-Err.is

pub returns-in-Ok-clause-reads : goal.returns-in-Ok-clause-reads
returns-in-Ok-clause-reads c = told_alone formula_shape (FormulaRead c.args.env.now (body_context c.args.ctx.now c.args.it.now) c.args.least) (FormulaRead c.args.env.now c.args.ctx.now c.args.least) c.args.left.now c.read_body.new.left c.args.f.now c.read_body.result c.in-Ok.d c.read_body.ensures.reads c.in-Ok.is
