use Rattle.mz_cited.specs.Cited.{members}
use Rattle.mz_structure.specs.Fields.{with_subject}
use Rattle.mz_structs.proofs.HeadingLemmas.{told_object_refused, told_object, told_back}
use Rattle.mz_structs.proofs.heading.read_by_object.Goals as goal

pub returns-in-Err-clause-reads : goal.returns-in-Err-clause-reads
returns-in-Err-clause-reads c =
    told_object_refused _ c.args.env.now c.args.at c.args.o.now _ _ _ (members c.args.ts.now) (with_subject c.args.ctx.now c.args.ty) c.put_subject.new.ctx c.read_fields.result c.in-Err.fault c.in_ok-before.ensures.put c.read_fields.ensures.reads c.in-Err.is

pub returns-in-Ok-clause-reads : goal.returns-in-Ok-clause-reads
returns-in-Ok-clause-reads c =
    told_object c.args.env.now c.args.at c.args.o.now _ _ (members c.args.ts.now) (with_subject c.args.ctx.now c.args.ty) c.put_subject.new.ctx c.read_fields.result c.in-Ok.field-0 c.in_ok-before.ensures.put c.read_fields.ensures.reads c.in-Ok.is

pub returns-in-Ok-clause-same : goal.returns-in-Ok-clause-same
returns-in-Ok-clause-same c =
    told_back c.args.ctx.now c.put_subject.new.ctx c.read_fields.new.ctx c.put_back.new.ctx c.args.ty c.count_constants-count.result c.in_ok-before.before c.count_constants-count.ensures c.in_ok-before.ensures.before c.in_ok-before.ensures.put c.read_fields.ensures.same c.put_back.ensures
