use Rattle.std.proofs.Common.{map}
use Rattle.mz_cited.specs.Cited.{tree_of, members}
use Rattle.mz_structure.specs.Fields.{ReadsAncestor}
use Rattle.mz_structs.proofs.LedLemmas.{told_members, told_first_refused, told_first_taken}
use Rattle.mz_structs.proofs.ancestors.read_members.Goals as goal

pub returns-in-Err-clause-reads : goal.returns-in-Err-clause-reads
returns-in-Err-clause-reads c =
    told_first_refused _ (ReadsAncestor c.args.env.now c.args.ctx.now c.args.least c.args.names.now) _ _ _ c.first_of-first.result.now (map tree_of c.others_of-others.result.now) (members c.args.ts.now) c.read_ancestor.result c.in-Err.fault (told_members c.args.ts.now c.first_of-first.result.now c.others_of-others.result.now c.first_of-first.ensures c.others_of-others.ensures) c.read_ancestor.ensures.reads c.in-Err.is

pub returns-in-Ok-clause-reads : goal.returns-in-Ok-clause-reads
returns-in-Ok-clause-reads c =
    told_first_taken (λ d. ReadsAncestor c.args.env.now d c.args.least c.args.names.now) c.args.ctx.now c.read_ancestor.new.ctx _ _ _ c.first_of-first.result.now (map tree_of c.others_of-others.result.now) (members c.args.ts.now) c.read_ancestor.result c.in-Ok.field-0 c.read_further.result (told_members c.args.ts.now c.first_of-first.result.now c.others_of-others.result.now c.first_of-first.ensures c.others_of-others.ensures) c.read_ancestor.ensures.reads c.in-Ok.is c.read_ancestor.ensures.same c.read_further.ensures.reads
