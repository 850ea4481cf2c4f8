use Rattle.mz_resolve.specs.Calls.{FormulaRead}
use Rattle.mz_meanings.specs.Definientia.{formula_shape, body_context}
use Rattle.mz_meanings.proofs.DefiniensLemmas.{told_no_otherwise, told_otherwise_refused, told_otherwise}
use Rattle.mz_meanings.proofs.formula_definientia.read_otherwise.Goals as goal

pub returns-in-None-clause-reads : goal.returns-in-None-clause-reads
returns-in-None-clause-reads c = told_no_otherwise formula_shape (FormulaRead c.args.env.now (body_context c.args.ctx.now c.args.it.now) c.args.least) c.args.ks c.args.left.now c.args.t.now c.in-None.is

pub returns-in-Err-clause-reads : goal.returns-in-Err-clause-reads
returns-in-Err-clause-reads c = told_otherwise_refused formula_shape (FormulaRead c.args.env.now (body_context c.args.ctx.now c.args.it.now) c.args.least) c.args.ks c.args.left.now c.read_body.new.left c.args.t.now c.in-Some.t c.read_body.result c.in-Err.fault c.in-Some.is c.read_body.ensures.reads c.in-Err.is

pub returns-in-Ok-clause-reads : goal.returns-in-Ok-clause-reads
returns-in-Ok-clause-reads c = told_otherwise formula_shape (FormulaRead c.args.env.now (body_context c.args.ctx.now c.args.it.now) c.args.least) c.args.ks c.args.left.now c.read_body.new.left c.args.t.now c.in-Some.t c.read_body.result c.in-Ok.d c.in-Some.is c.read_body.ensures.reads c.in-Ok.is
