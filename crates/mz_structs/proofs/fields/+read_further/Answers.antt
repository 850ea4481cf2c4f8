use Rattle.mz_structure.specs.Fields.{ReadsGroup}
use Rattle.mz_structs.proofs.LedLemmas.{told_none, told_next_refused, told_next_taken}
use Rattle.mz_structs.proofs.fields.+read_further.Goals as goal

pub returns-in-None-clause-reads : goal.returns-in-None-clause-reads
returns-in-None-clause-reads t c =
    told_none (ReadsGroup c.args.env.now c.args.at c.args.ctx.now c.args.o.now) _ c.args.ts.now c.in-None.ensures.cases

pub returns-in-Err-clause-reads : goal.returns-in-Err-clause-reads
returns-in-Err-clause-reads t c =
    told_next_refused _ (ReadsGroup c.args.env.now c.args.at c.args.ctx.now c.args.o.now) _ _ _ c.in-Some.t.now c.in-Some.others.now c.args.ts.now c.read_group.result c.in-Err.fault c.in-Some.ensures.cases.0 c.read_group.ensures.reads c.in-Err.is

pub returns-in-Ok-clause-reads : goal.returns-in-Ok-clause-reads
returns-in-Ok-clause-reads t c =
    told_next_taken (λ d. ReadsGroup c.args.env.now c.args.at d c.args.o.now) c.args.ctx.now c.read_group.new.ctx _ _ _ c.in-Some.t.now c.in-Some.others.now c.args.ts.now c.read_group.result c.in-Ok.field-0 c.read_further.result c.in-Some.ensures.cases.0 c.read_group.ensures.reads c.in-Ok.is c.read_group.ensures.same c.read_further.ensures.reads
