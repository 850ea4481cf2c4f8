use Rattle.mz_resolve.specs.Calls.{FormulaRead}
use Rattle.mz_meanings.specs.Definientia.{formula_shape, body_context}
use Rattle.mz_meanings.proofs.DefiniensLemmas.{told_cases_refused, told_cases}
use Rattle.mz_meanings.proofs.formula_definientia.read_by_cases.Goals as goal

pub returns-in-Err-clause-reads : goal.returns-in-Err-clause-reads
returns-in-Err-clause-reads c = told_cases_refused formula_shape (FormulaRead c.args.env.now (body_context c.args.ctx.now c.args.it.now) c.args.least) (FormulaRead c.args.env.now c.args.ctx.now c.args.least) c.args.left.now c.read_cases.new.left c.args.ts.now c.args.t.now c.read_cases.result c.in-Err.fault c.read_cases.ensures.reads c.in-Err.is

pub returns-in-Ok-clause-reads : goal.returns-in-Ok-clause-reads
returns-in-Ok-clause-reads c =
    told_cases formula_shape (λ d. FormulaRead c.args.env.now (body_context d c.args.it.now) c.args.least) (λ d. FormulaRead c.args.env.now d c.args.least) c.args.ctx.now c.read_cases.new.ctx c.args.left.now c.read_cases.new.left c.read_otherwise.new.left c.args.ts.now c.args.t.now c.read_cases.result c.in-Ok.ks c.read_otherwise.result c.read_cases.ensures.reads c.in-Ok.is c.read_cases.ensures.same c.read_otherwise.ensures.reads
