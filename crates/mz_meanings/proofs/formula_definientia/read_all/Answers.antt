use Rattle.mz_meanings.specs.Definientia.{FormulaCaseRead}
use Rattle.mz_meanings.proofs.EachLemmas.{told_first_refused, told_first_read}
use Rattle.mz_meanings.proofs.formula_definientia.read_all.Goals as goal

pub returns-in-Ok-clause-reads : goal.returns-in-Ok-clause-reads
returns-in-Ok-clause-reads c =
    told_first_read (λ d. FormulaCaseRead c.args.env.now d c.args.least c.args.it.now) c.args.ctx.now c.read_case.new.ctx c.args.left.now c.read_case.new.left c.read_each.new.left _ c.args.ts.now c.as_slice.result.now c.args.out.now c.read_case.new.out c.read_each.new.out c.read_case.result c.in-Ok.field-0 c.read_each.result c.ts.view_is c.read_case.ensures.reads c.in-Ok.is c.read_case.ensures.same c.as_slice.ensures.value c.read_each.ensures.reads

pub returns-in-Err-clause-reads : goal.returns-in-Err-clause-reads
returns-in-Err-clause-reads c =
    told_first_refused _ (FormulaCaseRead c.args.env.now c.args.ctx.now c.args.least c.args.it.now) c.args.left.now c.read_case.new.left _ c.args.ts.now c.args.out.now c.read_case.new.out _ c.read_case.result c.in-Err.fault c.ts.view_is c.read_case.ensures.reads c.in-Err.is
