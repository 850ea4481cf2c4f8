use Rattle.mz_structure.specs.Fields.{ReadsAncestor}
use Rattle.mz_structs.proofs.LedLemmas.{told_none, told_next_refused, told_next_taken}
use Rattle.mz_structs.proofs.ancestors.+read_further.Goals as goal

pub returns-in-None-clause-reads : goal.returns-in-None-clause-reads
returns-in-None-clause-reads t c =
    told_none (ReadsAncestor c.args.env.now c.args.ctx.now c.args.least c.args.names.now) _ c.args.ts.now c.in-None.ensures.cases

pub returns-in-Err-clause-reads : goal.returns-in-Err-clause-reads
returns-in-Err-clause-reads t c =
    told_next_refused _ (ReadsAncestor c.args.env.now c.args.ctx.now c.args.least c.args.names.now) _ _ _ c.in-Some.t.now c.in-Some.others.now c.args.ts.now c.read_ancestor.result c.in-Err.fault c.in-Some.ensures.cases.0 c.read_ancestor.ensures.reads c.in-Err.is

pub returns-in-Ok-clause-reads : goal.returns-in-Ok-clause-reads
returns-in-Ok-clause-reads t c =
    told_next_taken (λ d. ReadsAncestor c.args.env.now d c.args.least c.args.names.now) c.args.ctx.now c.read_ancestor.new.ctx _ _ _ c.in-Some.t.now c.in-Some.others.now c.args.ts.now c.read_ancestor.result c.in-Ok.field-0 c.read_further.result c.in-Some.ensures.cases.0 c.read_ancestor.ensures.reads c.in-Ok.is c.read_ancestor.ensures.same c.read_further.ensures.reads
