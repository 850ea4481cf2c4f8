use Rattle.mz_structs.proofs.HeadingLemmas.{told_field_refused, told_fields}
use Rattle.mz_structs.proofs.heading.take_fields.Goals as goal

pub returns-in-Err : goal.returns-in-Err
returns-in-Err c =
    told_field_refused _ c.args.least c.args.s.now c.read_own_fields.new.s c.args.t.now c.args.ws.now c.args.v.now c.args.a c.in_ok-o.o c.in_ok-ty.ty c.new-fields.result _ c.read_own_fields.result c.in-Err.fault c.in_ok-o.ensures c.in_ok-ty.ensures c.new-fields.ensures c.read_own_fields.ensures.reads c.in-Err.is

pub returns : goal.returns
returns c =
    told_fields c.args.least c.args.s.now c.read_own_fields.new.s c.end_structure.new.s c.args.t.now c.args.ws.now c.args.v.now c.args.a c.in_ok-o.o c.in_ok-ty.ty c.new-fields.result c.read_own_fields.new.out c.read_own_fields.new.s.left c.in_ok-x-in-Ok.x c.read_own_fields.result c.in-Ok.field-0 c.end_structure.result c.in_ok-o.ensures c.in_ok-ty.ensures c.new-fields.ensures c.read_own_fields.ensures.reads c.in-Ok.is c.in-Ok.ensures.same c.in_ok-x-in-Ok.ensures c.end_structure.ensures
