use Rattle.std.proofs.Common.{map}
use Rattle.mz_cited.specs.Cited.{tree_of, members}
use Rattle.mz_structure.specs.Fields.{ReadsGroup}
use Rattle.mz_structs.proofs.LedLemmas.{told_members, told_first_refused, told_first_taken}
use Rattle.mz_structs.proofs.fields.read_fields.Goals as goal

pub returns-in-Err-clause-reads : goal.returns-in-Err-clause-reads
returns-in-Err-clause-reads c =
    told_first_refused _ (ReadsGroup c.args.env.now c.args.at c.args.ctx.now c.args.o.now) _ _ _ c.first_of-first.result.now (map tree_of c.others_of-others.result.now) (members c.args.ts.now) c.read_group.result c.in-Err.fault (told_members c.args.ts.now c.first_of-first.result.now c.others_of-others.result.now c.first_of-first.ensures c.others_of-others.ensures) c.read_group.ensures.reads c.in-Err.is

pub returns-in-Ok-clause-reads : goal.returns-in-Ok-clause-reads
returns-in-Ok-clause-reads c =
    told_first_taken (λ d. ReadsGroup c.args.env.now c.args.at d c.args.o.now) c.args.ctx.now c.read_group.new.ctx _ _ _ c.first_of-first.result.now (map tree_of c.others_of-others.result.now) (members c.args.ts.now) c.read_group.result c.in-Ok.field-0 c.read_further.result (told_members c.args.ts.now c.first_of-first.result.now c.others_of-others.result.now c.first_of-first.ensures c.others_of-others.ensures) c.read_group.ensures.reads c.in-Ok.is c.read_group.ensures.same c.read_further.ensures.reads
