use Rattle.mz_structure.specs.Fields.{ReadsAncestor}
use Rattle.mz_structs.proofs.AncestorLemmas.{told_no_trees, told_trees}
use Rattle.mz_structs.proofs.ancestors.read_ancestors.Goals as goal

pub returns-in-None-clause-reads : goal.returns-in-None-clause-reads
returns-in-None-clause-reads c = told_no_trees (ReadsAncestor c.args.env.now c.args.ctx.now c.args.least c.args.names.now) _ c.args.t.now c.in-None.is

pub returns-in-Some-clause-reads : goal.returns-in-Some-clause-reads
returns-in-Some-clause-reads c = told_trees (ReadsAncestor c.args.env.now c.args.ctx.now c.args.least c.args.names.now) _ _ c.args.t.now c.in-Some.t c.read_members.result c.in-Some.is c.read_members.ensures.reads
