use Rattle.mz_structs.proofs.HeadingLemmas.{told_ancestor_refused, told_ancestors}
use Rattle.mz_structs.proofs.heading.take_ancestors.Goals as goal

pub returns-in-Err : goal.returns-in-Err
returns-in-Err c =
    told_ancestor_refused _ c.args.least c.args.s.now c.read_own_ancestors.new.s c.args.t.now c.args.ws.now c.args.v.now c.args.names.now c.no_ancestry-a.result _ c.read_own_ancestors.result c.in-Err.fault c.requires c.no_ancestry-a.ensures c.read_own_ancestors.ensures.reads c.in-Err.is

pub returns-in-Ok : goal.returns-in-Ok
returns-in-Ok c =
    told_ancestors c.args.least c.args.s.now c.read_own_ancestors.new.s c.take_fields.new.s c.args.t.now c.args.ws.now c.args.v.now c.args.names.now c.no_ancestry-a.result c.read_own_ancestors.new.out c.read_own_ancestors.new.s.left c.read_own_ancestors.result c.in-Ok.field-0 c.take_fields.result c.requires c.no_ancestry-a.ensures c.read_own_ancestors.ensures.reads c.in-Ok.is c.read_own_ancestors.ensures.same c.take_fields.ensures
