use Rattle.mz_structs.proofs.FieldLemmas.{told_repeated, told_type_not_read, told_group}
use Rattle.mz_structs.proofs.fields.read_group.Goals as goal

pub returns-in-Some-clause-reads : goal.returns-in-Some-clause-reads
returns-in-Some-clause-reads c =
    told_repeated c.args.env.now c.args.at c.args.ctx.now c.args.o.now c.args.out.now c.args.left.now c.args.t.now c.in_ok-repeated.repeated c.in-Some.place c.in_ok-repeated.ensures c.in-Some.is

pub returns-in-Err-clause-reads : goal.returns-in-Err-clause-reads
returns-in-Err-clause-reads c =
    told_type_not_read _ c.args.env.now c.args.at c.args.ctx.now c.args.o.now c.args.out.now _ c.args.left.now c.read_field_type.new.left c.args.t.now c.in_ok-repeated.repeated c.read_field_type.result c.in-Err.fault c.of_reading.result c.in_ok-repeated.ensures c.in-None.is c.read_field_type.ensures.reads c.in-Err.is c.of_reading.ensures

pub returns-in_ok-put_group-in-Ok-clause-reads : goal.returns-in_ok-put_group-in-Ok-clause-reads
returns-in_ok-put_group-in-Ok-clause-reads c =
    told_group c.args.env.now c.args.at c.args.ctx.now c.read_field_type.new.ctx c.args.o.now c.args.out.now c.put_group.new.out c.args.left.now c.read_field_type.new.left c.args.t.now c.in_ok-repeated.repeated c.read_field_type.result c.in-Ok.ty c.in_ok-repeated.ensures c.in-None.is c.read_field_type.ensures.reads c.in-Ok.is c.read_field_type.ensures.same c.in_ok-put_group-in-Ok.ensures
