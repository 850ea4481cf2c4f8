use Rattle.mz_cited.specs.Cited.{members}
use Rattle.mz_meanings.specs.Definientia.{FormulaCaseRead}
use Rattle.mz_meanings.proofs.EachLemmas.{told_whole, told_whole_refused}
use Rattle.mz_meanings.proofs.formula_definientia.read_cases.Goals as goal

pub returns-in-Ok-clause-reads : goal.returns-in-Ok-clause-reads
returns-in-Ok-clause-reads c =
    told_whole (FormulaCaseRead c.args.env.now c.args.ctx.now c.args.least c.args.it.now) c.args.left.now c.read_all.new.left (members c.args.ts.now) c.new-out.result c.read_all.new.out c.read_all.result c.in-Ok.field-0 c.new-out.ensures c.read_all.ensures.reads c.in-Ok.is

pub returns-in-Err-clause-reads : goal.returns-in-Err-clause-reads
returns-in-Err-clause-reads c =
    told_whole_refused (FormulaCaseRead c.args.env.now c.args.ctx.now c.args.least c.args.it.now) c.args.left.now c.read_all.new.left (members c.args.ts.now) c.new-out.result c.read_all.new.out c.read_all.result c.in-Err.fault c.new-out.ensures c.read_all.ensures.reads c.in-Err.is
