use Rattle.mz_resolve.specs.Calls.{FormulaRead}
use Rattle.mz_meanings.specs.Definientia.{formula_shape, body_context}
use Rattle.mz_meanings.proofs.DefiniensLemmas.{told_no_definiens, told_no_condition, told_case}
use Rattle.mz_meanings.proofs.formula_definientia.read_case.Goals as goal

pub returns-in-Err-clause-reads : goal.returns-in-Err-clause-reads
returns-in-Err-clause-reads c =
    told_no_definiens _ formula_shape (FormulaRead c.args.env.now (body_context c.args.ctx.now c.args.it.now) c.args.least) (FormulaRead c.args.env.now c.args.ctx.now c.args.least) c.args.left.now c.read_body.new.left c.args.t.now c.args.out.now _ c.read_body.result c.in-Err.fault c.read_body.ensures.reads c.in-Err.is

pub returns-in-Err-formula-clause-reads : goal.returns-in-Err-formula-clause-reads
returns-in-Err-formula-clause-reads c =
    told_no_condition _ formula_shape (FormulaRead c.args.env.now (body_context c.args.ctx.now c.args.it.now) c.args.least) (λ d. FormulaRead c.args.env.now d c.args.least) c.args.ctx.now c.read_body.new.ctx c.args.left.now c.read_body.new.left c.formula.new.left c.args.t.now c.args.out.now _ c.read_body.result c.in-Ok.definiens c.formula.result c.in-Err-formula.fault c.read_body.ensures.reads c.in-Ok.is c.read_body.ensures.same c.formula.ensures.reads c.in-Err-formula.is

pub returns-in_ok-put_case-in-Ok-formula-clause-reads : goal.returns-in_ok-put_case-in-Ok-formula-clause-reads
returns-in_ok-put_case-in-Ok-formula-clause-reads c =
    told_case formula_shape (FormulaRead c.args.env.now (body_context c.args.ctx.now c.args.it.now) c.args.least) (λ d. FormulaRead c.args.env.now d c.args.least) c.args.ctx.now c.read_body.new.ctx c.args.left.now c.read_body.new.left c.formula.new.left c.args.t.now c.args.out.now c.put_case.new.out c.read_body.result c.in-Ok.definiens c.formula.result c.in-Ok-formula.condition c.read_body.ensures.reads c.in-Ok.is c.read_body.ensures.same c.formula.ensures.reads c.in-Ok-formula.is c.in_ok-put_case-in-Ok-formula.ensures
