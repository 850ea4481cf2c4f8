use Rattle.std.proofs.Common.{refl}
use Rattle.mz_meanings.specs.Definientia.{FormulaCaseRead}
use Rattle.mz_meanings.proofs.EachLemmas.{kept_there, told_begun, told_end, told_stop, told_turn}
use Rattle.mz_meanings.proofs.formula_definientia.read_each.Goals as goal

pub loop-t-init : goal.loop-t-init
loop-t-init c = (told_begun (FormulaCaseRead c.args.env.now c.args.ctx.now c.args.least c.args.it.now) c.args.left.now c.args.ts.now c.args.out.now, refl)

pub loop-t-preserved : goal.loop-t-preserved
loop-t-preserved c = (
  told_turn (λ d. FormulaCaseRead c.args.env.now d c.args.least c.args.it.now) c.args.ctx.now c.loop-t.ctx c.loop-t.left c.args.left.now c.read_case.new.left c.loop-t.rest.now c.in-Some.others.now c.args.ts.now c.in-Some.t.now c.loop-t.out c.read_case.new.out c.args.out.now c.read_case.result c.in-Ok.field-0 c.in-Some.ensures.cases.0 c.read_case.ensures.reads c.in-Ok.is c.loop-t.invariant.1 c.loop-t.invariant.0,
  kept_there c.read_case.result c.in-Ok.field-0 c.args.ctx.now c.loop-t.ctx c.read_case.new.ctx c.read_case.ensures.same c.in-Ok.is c.loop-t.invariant.1,
)

pub returns-in-Err-clause-reads : goal.returns-in-Err-clause-reads
returns-in-Err-clause-reads c =
    told_stop _ (λ d. FormulaCaseRead c.args.env.now d c.args.least c.args.it.now) c.args.ctx.now c.loop-t.ctx c.loop-t.left c.args.left.now c.read_case.new.left c.loop-t.rest.now c.in-Some.others.now c.args.ts.now c.in-Some.t.now c.loop-t.out c.read_case.new.out c.args.out.now c.read_case.result c.in-Err.fault c.in-Some.ensures.cases.0 c.read_case.ensures.reads c.in-Err.is c.loop-t.invariant.1 c.loop-t.invariant.0

pub returns-clause-reads : goal.returns-clause-reads
returns-clause-reads c = told_end (FormulaCaseRead c.args.env.now c.args.ctx.now c.args.least c.args.it.now) c.loop-t.left c.args.left.now c.loop-t.rest.now c.args.ts.now c.loop-t.out c.args.out.now c.in_default.ensures.cases c.loop-t.invariant.0
