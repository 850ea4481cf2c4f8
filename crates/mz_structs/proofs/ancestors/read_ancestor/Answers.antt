use Rattle.mz_structs.proofs.AncestorLemmas.{told_not_read, told_read}
use Rattle.mz_structs.proofs.ancestors.read_ancestor.Goals as goal

pub returns-in-Err-clause-reads : goal.returns-in-Err-clause-reads
returns-in-Err-clause-reads c =
    told_not_read _ c.args.env.now c.args.ctx.now c.args.least c.args.names.now c.args.out.now _ c.args.left.now c.type_of.new.left c.args.t.now c.type_of.result c.in-Err.fault c.of_reading.result c.type_of.ensures.reads c.in-Err.is c.of_reading.ensures

pub returns-in-Ok-clause-reads : goal.returns-in-Ok-clause-reads
returns-in-Ok-clause-reads c =
    told_read c.args.env.now c.args.ctx.now c.args.least c.args.names.now c.args.out.now c.put_ancestor.new.out c.args.left.now c.type_of.new.left c.args.t.now c.first_place.result c.in-Ok.ty c.type_of.result c.put_ancestor.result c.type_of.ensures.reads c.in-Ok.is c.first_place.ensures c.put_ancestor.ensures
